use Rattle.disk_memory.specs.Folder.{folder_view}
use Rattle.disk_memory.specs.Sink.{sink_view}
use Rattle.disk_memory.specs.Vault.{vault_view}
use Rattle.snap_top_refusals.proofs.UnheardLemmas.{whole_unheard}
use Rattle.snap_top_refusals.proofs.unheard.run_unheard.Goals as goal

pub returns : goal.returns
returns g c =
    whole_unheard _ folder_view vault_view sink_view _ _ _ _ _ _ _ _ _ _ c.in_ok-whole.ensures (c.opened_well.ensures c.if-not-opened_well.false)
