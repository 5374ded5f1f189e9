use Rattle.snap_sync.proofs.ResumeLaws.{again_from, holds_after, laid_after, pending_after, resumed, verified_found}
use Rattle.snap_sync.proofs.laws.a_stopped_sync_is_resumed.Goals as goal

pub returns-clause-laid : goal.returns-clause-laid
returns-clause-laid c = λ run count told valid.
    laid_after c.a_cell_stands_at_its_position.ensures.found c.closing_a_stripe_leaves_the_others.ensures c.closing_a_stripe_gives_its_hashes.ensures
    c.a_layout_is_of_the_kept_files.ensures c.a_table_of_the_kept_files_is_laid_out_as_it_is.ensures.same
    run.setup run.loaded run.plan run.readings run.ahead run.folders run.listed run.ended told count valid

pub returns-clause-unrefused : goal.returns-clause-unrefused
returns-clause-unrefused c = λ run count force_zero force_empty told valid.
    c.a_table_of_the_kept_files_is_laid_out_as_it_is.ensures.unrefused force_zero force_empty _ _ valid
    (holds_after c.a_cell_stands_at_its_position.ensures.found c.closing_a_stripe_leaves_the_others.ensures c.closing_a_stripe_gives_its_hashes.ensures
    c.a_layout_is_of_the_kept_files.ensures c.a_table_of_the_kept_files_is_laid_out_as_it_is.ensures.same
    run.setup run.loaded run.plan run.readings run.ahead run.folders run.listed run.ended told count)

pub returns-clause-pending : goal.returns-clause-pending
returns-clause-pending c = λ run count told within.
    pending_after c.a_cell_stands_at_its_position.ensures.found c.closing_a_stripe_leaves_the_others.ensures c.closing_a_stripe_gives_its_hashes.ensures
    c.a_layout_is_of_the_kept_files.ensures c.a_table_of_the_kept_files_is_laid_out_as_it_is.ensures.same
    run.setup run.loaded run.plan run.readings run.ahead run.folders run.listed run.ended told count within

pub returns-clause-full : goal.returns-clause-full
returns-clause-full c = λ run files left snapshot is_changed now again found table other_table one other told.
    resumed c.a_cell_stands_at_its_position.ensures.found c.closing_a_stripe_leaves_the_others.ensures c.closing_a_stripe_gives_its_hashes.ensures
    c.a_layout_is_of_the_kept_files.ensures c.a_table_of_the_kept_files_is_laid_out_as_it_is.ensures.same
    run.setup run.loaded run.plan run.readings run.ahead run.folders run.listed run.ended told
    c.a_cell_stands_at_its_position.ensures.only c.one_table_has_a_spelling.ensures files left snapshot is_changed now again found table other_table one other

pub returns-clause-again : goal.returns-clause-again
returns-clause-again c = λ run files left snapshot is_changed now again table other_table one other told.
    again_from c.a_cell_stands_at_its_position.ensures.found c.closing_a_stripe_leaves_the_others.ensures c.closing_a_stripe_gives_its_hashes.ensures
    c.a_layout_is_of_the_kept_files.ensures c.a_table_of_the_kept_files_is_laid_out_as_it_is.ensures.same
    run.setup run.loaded run.plan run.readings run.ahead run.folders run.listed run.ended told files left snapshot is_changed now again table other_table one other

pub returns-clause-verified : goal.returns-clause-verified
returns-clause-verified c = λ run files left found told.
    verified_found c.a_cell_stands_at_its_position.ensures.found c.closing_a_stripe_leaves_the_others.ensures c.closing_a_stripe_gives_its_hashes.ensures
    c.a_layout_is_of_the_kept_files.ensures c.a_table_of_the_kept_files_is_laid_out_as_it_is.ensures.same
    run.setup run.loaded run.plan run.readings run.ahead run.folders run.listed run.ended told
    c.a_cell_stands_at_its_position.ensures.only c.one_table_has_a_spelling.ensures files left found
