use Rattle.disk_memory.specs.Folder.{folder_view}
use Rattle.disk_memory.specs.Sink.{sink_view}
use Rattle.disk_memory.specs.Vault.{vault_view}
use Rattle.snap_top_histories.proofs.ChangedLemmas.{edited}
use Rattle.snap_top_histories.proofs.changed.edit.Goals as goal

pub returns-clause-lived : goal.returns-clause-lived
returns-clause-lived c = edited _ folder_view vault_view sink_view _ _ _ _ _ c.requires.lived
