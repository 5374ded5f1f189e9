use Rattle.std.proofs.Common.{sym, ◌∙◌}
use Rattle.disk_memory.specs.Folder.{folder_view}
use Rattle.disk_memory.specs.Sink.{sink_view}
use Rattle.disk_memory.specs.Vault.{vault_value, vault_view}
use Rattle.snap_top_instances.proofs.SmoothLemmas.{is_smooth_sync}
use Rattle.snap_top_instances.proofs.smooth.sync_smoothly.Goals as goal

pub returns : goal.returns
returns g c =
    let last = c.in_ok-last.ensures in
    is_smooth_sync _ folder_view vault_view sink_view _ _ _ _ (vault_value c.in_ok-left.left) (vault_value c.in_ok-seen.seen) _ _ _ _ c.one_table_has_a_spelling.ensures
    (c.ask_for_sync.ensures c.if-not-ask_for_sync.false) (c.asks_plain_sync.ensures c.if-not-asks_plain_sync.false) (c.in_ok-seen.ensures.picked ∙ sym c.in_ok-left.ensures.picked)
    (c.has_record.ensures c.if-not-has_record.false) last.ran last.faults last.calm last.ended
