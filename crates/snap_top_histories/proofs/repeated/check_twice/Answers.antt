use Rattle.std.proofs.Common.{◌∙◌}
use Rattle.disk_memory.specs.Folder.{folder_view}
use Rattle.disk_memory.specs.Sink.{sink_view}
use Rattle.disk_memory.specs.Vault.{vault_view}
use Rattle.snap_top_histories.proofs.RepeatedLemmas.{checked_twice}
use Rattle.snap_top_histories.proofs.repeated.check_twice.Goals as goal

pub returns : goal.returns
returns g c =
    let made = c.in_ok-made.ensures in
    let kept = c.in_ok-kept.ensures in
    let last = c.in_ok-last.ensures in
    checked_twice _ folder_view vault_view sink_view _ _ _ _ _ _ _ _ _ _ _ _ _ c.headline.ensures c.one_array_is_found_alike.ensures.checks c.requires.lived
    (c.ask_for_check.ensures c.if-not-ask_for_check.false) made.ran made.faults made.calm made.ended kept.left (kept.copies ∙ c.copies-copies.ensures) last.ran last.faults last.calm last.ended
