use Rattle.std.proofs.Common.{◌∙◌}
use Rattle.disk_memory.specs.Folder.{folder_view}
use Rattle.disk_memory.specs.Sink.{sink_view}
use Rattle.disk_memory.specs.Vault.{vault_view}
use Rattle.snap_top_instances.proofs.ToldLemmas.{whole_told}
use Rattle.snap_top_instances.proofs.told.run_told.Goals as goal

pub returns : goal.returns
returns g c =
    whole_told _ folder_view vault_view sink_view _ _ _ _ _ _ _ _ _ _ _ c.in_ok-whole.ensures
    (c.opened_well.ensures c.if-not-opened_well.false) (c.wrote_well.ensures c.if-not-wrote_well.false)
    (c.in_ok-printed.ensures.items ∙ c.bytes.ensures)
