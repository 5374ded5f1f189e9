use Rattle.snap_exercise.proofs.MendsLemmas.{mends_all, one_mended}
use Rattle.snap_exercise.proofs.WellLemmas.{is_well_so}
use Rattle.snap_exercise.proofs.laws.an_exercise_that_meets_no_chance_mends_all.Goals as goal

pub returns-clause-mends : goal.returns-clause-mends
returns-clause-mends c = mends_all c.a_sync_is_a_part_sync.ensures.laid c.a_sync_is_a_part_sync.ensures.given c.closing_a_stripe_leaves_the_others.ensures c.closing_a_stripe_gives_its_hashes.ensures c.what_is_pending_is_found.ensures.exactly c.what_is_pending_is_found.ensures.told
    c.a_cell_stands_at_its_position.ensures.found c.what_a_sync_saves_is_valid.ensures c.a_fix_keeps_what_is_sound.ensures.facts c.a_fix_keeps_what_is_sound.ensures.wrong
    c.a_known_row_is_the_snapshots.ensures.restorable c.a_whole_level_is_what_the_file_holds.ensures c.a_layout_is_of_the_kept_files.ensures

pub returns-clause-one : goal.returns-clause-one
returns-clause-one c = one_mended c.a_sync_is_a_part_sync.ensures.laid c.a_sync_is_a_part_sync.ensures.given c.closing_a_stripe_leaves_the_others.ensures c.closing_a_stripe_gives_its_hashes.ensures c.what_is_pending_is_found.ensures.exactly c.what_is_pending_is_found.ensures.told
    c.a_cell_stands_at_its_position.ensures.found c.what_a_sync_saves_is_valid.ensures c.a_fix_keeps_what_is_sound.ensures.facts c.a_fix_keeps_what_is_sound.ensures.wrong
    c.a_known_row_is_the_snapshots.ensures.restorable c.a_whole_level_is_what_the_file_holds.ensures c.a_layout_is_of_the_kept_files.ensures c.what_is_read_determines_what_is_found.ensures.stripe

pub returns-clause-well : goal.returns-clause-well
returns-clause-well c = is_well_so c.a_sync_is_a_part_sync.ensures.laid c.a_sync_is_a_part_sync.ensures.given c.closing_a_stripe_leaves_the_others.ensures c.closing_a_stripe_gives_its_hashes.ensures c.what_is_pending_is_found.ensures.exactly c.what_is_pending_is_found.ensures.told
    c.a_cell_stands_at_its_position.ensures.found c.what_a_sync_saves_is_valid.ensures c.a_fix_keeps_what_is_sound.ensures.facts c.a_fix_keeps_what_is_sound.ensures.wrong
    c.a_known_row_is_the_snapshots.ensures.restorable c.a_whole_level_is_what_the_file_holds.ensures c.a_layout_is_of_the_kept_files.ensures c.a_fix_restores.ensures.restored c.a_fix_leaves_the_rest.ensures.bytes
    c.what_is_pending_is_found.ensures.findings c.what_is_pending_is_found.ensures.pending
