-- A run that went to its end, and wrote nothing to its standard error.
use Rattle.std.specs.Prelude.{◌≡◌, ◌≢◌, ℕ, ◌≤◌, List, [], IsTrue}
use Rattle.disk_model.specs.Folder.{FolderView}
use Rattle.disk_model.specs.Opener.{OpenerView}
use Rattle.disk_model.specs.Sink.{SinkView}
use Rattle.disk_model.specs.Vault.{VaultView}
use Rattle.snap_top.specs.End.{line_of, status_of}
use Rattle.snap_top.specs.RunOf.{RunOf}
use Rattle.snap_top.specs.Run.{IsSaid}
use Rattle.snap_top.specs.Standing.{after_of, before_of}
use Rattle.snap_top.specs.declared.end.End.{End}

module _ {O F V W : Type 0} (opener_view : O → OpenerView) (folder_view : F → FolderView) (vault_view : V → VaultView) (sink_view : W → SinkView) where
  -- A run with status 0 or 1 printed something. Its standard error tells what is written to it, held nothing at the beginning, and got the line of
  -- the run's end. So it holds nothing still.
  pub record IsSilentRun (status : ℕ) : Type 0 where
    pub run : RunOf O F V W
    pub err : W
    pub err_new : W
    pub end : End
    pub ends_by : run.status ≡ status_of end
    pub said : IsSaid (line_of end) (sink_view err) (sink_view err_new)
    pub tells : IsTrue (sink_view err).tells
    pub begins : (sink_view err).written ≡ []
    pub few : run.status ≤ 1
    pub printed_some : (after_of opener_view folder_view vault_view sink_view run).after.out.written
        ≢ (before_of opener_view folder_view vault_view sink_view run).out.written
    pub silent : (sink_view err_new).written ≡ (sink_view err).written
    pub status_is : run.status ≡ status
