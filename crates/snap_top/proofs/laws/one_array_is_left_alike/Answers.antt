use Rattle.snap_top.proofs.LeftAlikeLemmas.{scrubs_of_one_array, syncs_of_one_array}
use Rattle.snap_top.proofs.ReadFixesLemmas.{fixes_of_one_array}
use Rattle.snap_top.proofs.laws.one_array_is_left_alike.Goals as goal

pub returns-clause-syncs : goal.returns-clause-syncs
returns-clause-syncs g c run again one other = syncs_of_one_array c.one_table_has_a_spelling.ensures _ _ _ _ run.status again.status one other

pub returns-clause-scrubs : goal.returns-clause-scrubs
returns-clause-scrubs g c run again one other = scrubs_of_one_array c.one_table_has_a_spelling.ensures _ _ _ _ run.status again.status one other

pub returns-clause-fixes : goal.returns-clause-fixes
returns-clause-fixes g c run again one other =
    let rest = c.a_fix_leaves_the_rest.ensures in
    fixes_of_one_array c.what_is_read_determines_what_is_found.ensures.stripe (record { unfinished = rest.unfinished; others = rest.others }) c.a_fix_finishes_files.ensures c.one_table_has_a_spelling.ensures _ _ _ _ run.status again.status one other
