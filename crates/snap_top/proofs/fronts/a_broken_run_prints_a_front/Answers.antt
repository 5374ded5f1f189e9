use Rattle.snap_top.proofs.FixFrontLemmas.{fix_seen_front}
use Rattle.snap_top.proofs.FixOnceLemmas.{fix_front_once}
use Rattle.snap_top.proofs.FixSeesLemmas.{fix_front}
use Rattle.snap_top.proofs.BrokeOffLemmas.{early_front}
use Rattle.snap_top.proofs.ScrubFrontLemmas.{scrub_front, scrub_read_front}
use Rattle.snap_top.proofs.SyncFrontLemmas.{sync_front, sync_read_front}
use Rattle.snap_top.proofs.fronts.a_broken_run_prints_a_front.Goals as goal

pub returns-clause-syncs : goal.returns-clause-syncs
returns-clause-syncs g c run again other broke hold ask once well =
    let says = c.a_sync_is_a_part_sync.ensures in
    sync_front says.laid says.given c.one_table_has_a_spelling.ensures _ _ _ _ again.status broke other hold ask well once

pub returns-clause-scrubs : goal.returns-clause-scrubs
returns-clause-scrubs g c run again other broke hold ask moments once well =
    scrub_front c.one_table_has_a_spelling.ensures _ _ _ _ again.status broke other hold ask moments well once

pub returns-clause-fixes : goal.returns-clause-fixes
returns-clause-fixes g c run again other broke hold ask stamps once well =
    fix_front_once c.what_is_read_determines_what_is_found.ensures.stripe c.one_table_has_a_spelling.ensures _ _ _ _ again.status broke other hold ask stamps once well

pub returns-clause-read_syncs : goal.returns-clause-read_syncs
returns-clause-read_syncs g c run again more other off start read = sync_read_front _ _ _ _ again.status off other more start read

pub returns-clause-read_scrubs : goal.returns-clause-read_scrubs
returns-clause-read_scrubs g c run again other off loaded read = scrub_read_front _ _ _ _ again.status off other loaded read

pub returns-clause-read_fixes : goal.returns-clause-read_fixes
returns-clause-read_fixes g c run again other off right hold ask stamps well =
    fix_front c.what_is_read_determines_what_is_found.ensures.stripe c.one_table_has_a_spelling.ensures _ _ _ _ again.status off right other hold ask well stamps

pub returns-clause-seen_fixes : goal.returns-clause-seen_fixes
returns-clause-seen_fixes g c run again other off hold stamps seen =
    fix_seen_front c.what_is_read_determines_what_is_found.ensures.stripe _ _ _ _ again.status off other hold stamps seen

pub returns-clause-early : goal.returns-clause-early
returns-clause-early g c run early = early_front _ _ early
