use Rattle.snap_top.proofs.ResumedRuns.{runs_resumed}
use Rattle.snap_top.proofs.laws.stopped_runs_are_resumed.Goals as goal

pub returns : goal.returns
returns g c = runs_resumed c.stopped_syncs_are_resumed.ensures c.there_is_a_full_sync.ensures.shape g.O.Opener.view g.F.Folder.view g.V.Vault.view g.W.Sink.view
