use Rattle.snap_top.proofs.LeftAlikeLemmas.{scrubs_read_alike, syncs_read_alike}
use Rattle.snap_top.proofs.ReadFixesLemmas.{fixes_seen_alike}
use Rattle.snap_top.proofs.laws.what_is_read_alike_is_left_alike.Goals as goal

pub returns-clause-syncs : goal.returns-clause-syncs
returns-clause-syncs g c run again one other = syncs_read_alike _ _ _ _ run.status again.status one other

pub returns-clause-scrubs : goal.returns-clause-scrubs
returns-clause-scrubs g c run again one other = scrubs_read_alike _ _ _ _ run.status again.status one other

pub returns-clause-fixes : goal.returns-clause-fixes
returns-clause-fixes g c run again one other =
    let rest = c.a_fix_leaves_the_rest.ensures in
    fixes_seen_alike c.what_is_read_determines_what_is_found.ensures.stripe (record { unfinished = rest.unfinished; others = rest.others }) c.a_fix_finishes_files.ensures _ _ _ _ run.status again.status one other
