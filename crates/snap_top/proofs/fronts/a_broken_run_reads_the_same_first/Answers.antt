use Rattle.snap_top.proofs.FixOnceLemmas.{fix_sees_once, right_once}
use Rattle.snap_top.proofs.ScrubFrontLemmas.{scrub_reads}
use Rattle.snap_top.proofs.SyncFrontLemmas.{sync_reads}
use Rattle.snap_top.proofs.fronts.a_broken_run_reads_the_same_first.Goals as goal

pub returns-clause-syncs : goal.returns-clause-syncs
returns-clause-syncs g c run again other off hold ask once well =
    sync_reads c.a_sync_is_a_part_sync.ensures.laid c.a_sync_is_a_part_sync.ensures.given c.one_table_has_a_spelling.ensures _ _ _ _ again.status off other hold ask once well

pub returns-clause-scrubs : goal.returns-clause-scrubs
returns-clause-scrubs g c run again other off hold ask moments once well =
    scrub_reads c.one_table_has_a_spelling.ensures _ _ _ _ again.status off other hold ask moments once well

pub returns-clause-fixes : goal.returns-clause-fixes
returns-clause-fixes g c run again other off hold ask once well =
    fix_sees_once c.what_is_read_determines_what_is_found.ensures.stripe c.one_table_has_a_spelling.ensures _ _ _ _ again.status off other hold ask once well

pub returns-clause-reads_right : goal.returns-clause-reads_right
returns-clause-reads_right g c run off tells once = right_once _ _ tells.tells tells.tells_vault off once
