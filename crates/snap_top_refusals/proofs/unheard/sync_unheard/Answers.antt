use Rattle.disk_memory.specs.Folder.{folder_view}
use Rattle.disk_memory.specs.Sink.{sink_view}
use Rattle.disk_memory.specs.Vault.{vault_value, vault_view}
use Rattle.snap_top_refusals.proofs.UnheardLemmas.{synced_unheard}
use Rattle.snap_top_refusals.proofs.unheard.sync_unheard.Goals as goal

pub returns : goal.returns
returns g c =
    let made = c.in_ok-made.ensures in
    synced_unheard _ folder_view vault_view sink_view _ _ _ _ c.args.array.levels c.args.array.copies (vault_value c.in_ok-fresh.fresh) _ _ _ c.headline.ensures c.in_ok-fresh.ensures.view
    (c.has_levels.ensures c.if-not-has_levels.false) (c.asks_plain_sync.ensures c.if-not-asks_plain_sync.false) made.ran made.faults made.calm c.if-status-ne3.false
    (c.has_parity_byte.ensures c.if-not-has_parity_byte.false)
