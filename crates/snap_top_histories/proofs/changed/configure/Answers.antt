use Rattle.disk_memory.specs.Folder.{folder_view}
use Rattle.disk_memory.specs.Sink.{sink_view}
use Rattle.disk_memory.specs.Vault.{vault_view}
use Rattle.snap_top_histories.proofs.ChangedLemmas.{configured}
use Rattle.snap_top_histories.proofs.changed.configure.Goals as goal

pub returns-clause-fresh : goal.returns-clause-fresh
returns-clause-fresh c = c.in_ok-vault.ensures.is_new

pub returns-clause-lived : goal.returns-clause-lived
returns-clause-lived c = configured _ folder_view vault_view sink_view _ _ _ _ _ _ _ c.requires.lived c.in_ok-vault.ensures
