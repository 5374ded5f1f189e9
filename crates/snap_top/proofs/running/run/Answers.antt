use Rattle.std.proofs.Common.{arith}
use Rattle.snap_top.proofs.ExercisingLemmas.{smooth_runs_are_done}
use Rattle.snap_top.proofs.LevelsLemmas.{by_said, refused_seen}
use Rattle.snap_top.proofs.MomentLemmas.{every_moment}
use Rattle.snap_top.proofs.NamingLemmas.{checks_end}
use Rattle.snap_top.proofs.PartLemmas.{syncs_end_in_part}
use Rattle.snap_top.proofs.RestoringLemmas.{fixes_end}
use Rattle.snap_top.proofs.ScrubbedLemmas.{scrubs_end}
use Rattle.snap_top.proofs.SilentLemmas.{done_is_silent}
use Rattle.snap_top.proofs.StepLemmas.{every_run_steps}
use Rattle.snap_top.proofs.UnwrittenLemmas.{writes_as_asked}
use Rattle.snap_top.proofs.running.run.Goals as goal

pub returns-clause-refused : goal.returns-clause-refused
returns-clause-refused g c = refused_seen _ _ _ _ _ _ _ c.work-end.ensures _ c.status.ensures

pub returns-clause-account : goal.returns-clause-account
returns-clause-account g c tells =
    let ran = c.work-end.ensures in
    record { end = c.work-end.result.end; told = ran.told; ran = by_said _ _ _ _ _ _ _ ran tells; status_is = c.status.ensures }

pub returns-clause-unwritten : goal.returns-clause-unwritten
returns-clause-unwritten g c = let ran = c.work-end.ensures in writes_as_asked _ _ c.work-end.result.end ran.told _ c.status.ensures ran.ran

pub returns-clause-silent : goal.returns-clause-silent
returns-clause-silent g c = done_is_silent c.work-end.result.end _ _ _ c.status.ensures c.say.ensures

pub returns-clause-complete : goal.returns-clause-complete
returns-clause-complete g c = smooth_runs_are_done _ _ _ _ _ _ c.work-end.result.end c.work-end.ensures _ c.status.ensures

pub returns-clause-sound : goal.returns-clause-sound
returns-clause-sound g c fresh =
    let ran = c.work-end.ensures in
    let parts = c.a_sync_is_a_part_sync.ensures in
    every_moment parts.laid parts.copies c.every_moment_is_sound.ensures c.a_fix_keeps_what_is_sound.ensures.sound c.a_scrub_keeps_what_is_synced.ensures.valid c.a_scrub_keeps_what_is_synced.ensures.sound c.a_layout_keeps_its_stripes.ensures c.one_table_has_a_spelling.ensures c.what_is_pending_is_found.ensures.findings _ _ c.work-end.result.end ran.told _ (omega arith) c.status.ensures
    (by_said _ _ _ _ _ _ _ ran fresh.tells) fresh

pub returns-clause-synced : goal.returns-clause-synced
returns-clause-synced g c tells =
    let ran = c.work-end.ensures in
    let parts = c.a_sync_is_a_part_sync.ensures in
    syncs_end_in_part parts.laid parts.part parts.full parts.given c.what_is_pending_is_found.ensures.findings c.what_is_pending_is_found.ensures.found c.a_layout_keeps_its_stripes.ensures _ _ c.work-end.result.end ran.told _ (omega arith) c.status.ensures
    (by_said _ _ _ _ _ _ _ ran tells.tells) tells

pub returns-clause-fixed : goal.returns-clause-fixed
returns-clause-fixed g c tells =
    let ran = c.work-end.ensures in
    let restores = c.a_fix_restores.ensures in
    fixes_end restores.restored restores.unrestored restores.lost restores.told restores.known c.a_fix_keeps_what_is_sound.ensures.facts _ _ c.work-end.result.end ran.told _ c.status.ensures
    (by_said _ _ _ _ _ _ _ ran tells.tells) tells

pub returns-clause-checked : goal.returns-clause-checked
returns-clause-checked g c tells =
    let ran = c.work-end.ensures in
    checks_end c.a_known_row_is_the_snapshots.ensures.restorable c.a_fix_keeps_what_is_sound.ensures.facts _ _ c.work-end.result.end ran.told _ c.status.ensures
    (by_said _ _ _ _ _ _ _ ran tells.tells) tells

pub returns-clause-scrubbed : goal.returns-clause-scrubbed
returns-clause-scrubbed g c tells =
    let ran = c.work-end.ensures in
    scrubs_end _ _ c.work-end.result.end ran.told _ (omega arith) c.status.ensures (by_said _ _ _ _ _ _ _ ran tells.tells) tells

pub returns-clause-step : goal.returns-clause-step
returns-clause-step g c fresh =
    let ran = c.work-end.ensures in
    let parts = c.a_sync_is_a_part_sync.ensures in
    let finds = c.what_is_pending_is_found.ensures in
    let restores = c.a_fix_restores.ensures in
    let keeps = c.a_fix_keeps_what_is_sound.ensures in
    every_run_steps (record {
      laid = parts.laid;
      of_parts = parts.copies;
      part = parts.part;
      full = parts.full;
      given = parts.given;
      finds = finds.findings;
      found = finds.found;
      moments = c.every_moment_is_sound.ensures;
      keeps = c.a_layout_keeps_its_stripes.ensures;
      one_table = c.one_table_has_a_spelling.ensures;
      keeps_sound = keeps.sound;
      restored = restores.restored;
      lost = restores.unrestored;
      unknown_lost = restores.lost;
      lost_unknown = restores.told;
      known = restores.known;
      genuine = keeps.facts;
      restorable = c.a_known_row_is_the_snapshots.ensures.restorable;
      marks_valid = c.a_scrub_keeps_what_is_synced.ensures.valid;
      marks_sound = c.a_scrub_keeps_what_is_synced.ensures.sound;
    }) _ _ c.work-end.result.end ran.told _ (omega arith) c.status.ensures
    (by_said _ _ _ _ _ _ _ ran fresh.tells) fresh
