-- A run that is no fix leaves the files of a disk as they are: an instance of what the headline says of trees.
use Rattle.std.specs.Prelude.{◌≡◌, ◌≢◌, ℕ, List, false, true, IsTrue}
use Rattle.std.specs.FinMap as finite_map
use Rattle.disk_model.specs.Folder.{FolderView}
use Rattle.disk_model.specs.Opener.{OpenerView}
use Rattle.disk_model.specs.Sink.{SinkView}
use Rattle.disk_model.specs.Tree.{Tree}
use Rattle.disk_model.specs.Vault.{VaultView}
use Rattle.snap_sync.specs.Part.{tree_at}
use Rattle.snap_top.specs.RunOf.{RunOf}
use Rattle.snap_top.specs.Standing.{BeginsOver, IsHistory, IsOrigin, Stage, Standing, after_of, before_of}
use Rattle.snap_top.specs.Step.{RunStep}
use Rattle.snap_top.specs.Stopping.{FolderStandsIn}
use Rattle.snap_top.specs.Effect.{effect}
use Rattle.snap_top.specs.Views.{folder_at}

module _ {O F V W : Type 0} (opener_view : O → OpenerView) (folder_view : F → FolderView) (vault_view : V → VaultView) (sink_view : W → SinkView) where
  -- A run over what stands after a history fixed nothing, and ended with this status. The first disk holds a file. These are its files at the end of
  -- the run, or after a stop of it; they are those that stood. It tells its calls, so those of each stop within them are, too.
  pub record IsTreeKept (status : ℕ) : Type 0 where
    pub first : Standing
    pub standing : Standing
    pub stages : List (Stage O F V W)
    pub run : RunOf O F V W
    pub origin : IsOrigin first
    pub history : IsHistory opener_view folder_view vault_view sink_view first stages standing
    pub begins : BeginsOver standing (before_of opener_view folder_view vault_view sink_view run)
    pub step : RunStep (before_of opener_view folder_view vault_view sink_view run) (after_of opener_view folder_view vault_view sink_view run) run.status
    pub opened : (after_of opener_view folder_view vault_view sink_view run).has_vault ≡ true
    pub none : (effect step.always.did).writes_files ≡ false
    pub left : Tree
    pub stands : FolderStandsIn (before_of opener_view folder_view vault_view sink_view run) (after_of opener_view folder_view vault_view sink_view run) 0 left
    pub some : tree_at standing.trees 0 ≢ finite_map.empty
    pub stays : left ≡ tree_at standing.trees 0
    pub tells_calls : IsTrue (folder_at (after_of opener_view folder_view vault_view sink_view run).after.folders 0).tells_calls
    pub stays_within : (within : Tree)
        → FolderStandsIn (before_of opener_view folder_view vault_view sink_view run) (after_of opener_view folder_view vault_view sink_view run) 0 within
        → within ≡ tree_at standing.trees 0
    pub status_is : run.status ≡ status
