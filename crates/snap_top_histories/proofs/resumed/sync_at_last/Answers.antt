use Rattle.std.proofs.Common.{arith}
use Rattle.disk_memory.specs.Folder.{folder_view}
use Rattle.disk_memory.specs.Sink.{sink_view}
use Rattle.disk_memory.specs.Vault.{vault_view}
use Rattle.snap_top_histories.proofs.ResumedLemmas.{synced_at_last}
use Rattle.snap_top_histories.proofs.resumed.sync_at_last.Goals as goal

pub returns : goal.returns
returns g c =
    synced_at_last _ folder_view vault_view sink_view _ _ _ _ _ _ _ _ _ c.headline.ensures c.requires.lived (c.ask_for_sync.ensures c.if-not-ask_for_sync.false) c.in_ok-made.ensures
    (omega (arith, c.if-made-gt1.false))
