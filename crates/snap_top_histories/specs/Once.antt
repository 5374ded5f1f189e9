-- An array that was run over once, and from which files were then taken away: a fix of it is one of which the headline supposes nothing more.
use Rattle.std.specs.Prelude.{◌≡◌, ℕ, List, [], ◌∷◌}
use Rattle.disk_model.specs.Folder.{FolderView}
use Rattle.disk_model.specs.Opener.{OpenerView}
use Rattle.disk_model.specs.Sink.{SinkView}
use Rattle.disk_model.specs.Vault.{VaultView}
use Rattle.snap_sync.specs.Part.{trees_of}
use Rattle.snap_top.specs.Headline.{FixesToItsEnd}
use Rattle.snap_top.specs.RestoredLast.{IsRestored}
use Rattle.snap_top.specs.RunOf.{RunOf}
use Rattle.snap_top.specs.Standing.{GoesOver, IsHistory, IsOrigin, Stage, Standing, after_of, before_of}
use Rattle.snap_top_histories.specs.Lived.{standing_of}
use Rattle.snap_top.specs.Taken.{OnlyTakenAway}

module _ {O F V W : Type 0} (opener_view : O → OpenerView) (folder_view : F → FolderView) (vault_view : V → VaultView) (sink_view : W → SinkView) where
  -- A run over an array without content ended with this status. What stands now is what it left, or a stop at some moment of it, but for files
  -- that were taken away.
  pub record IsLeftOfOne (config : List ℕ) (folders : List FolderView) (vault : VaultView) (status : ℕ) : Type 0 where
    pub first : Standing
    pub next : Standing
    pub run : RunOf O F V W
    pub origin : IsOrigin first
    pub goes : GoesOver opener_view folder_view vault_view sink_view run first next
    pub status_is : run.status ≡ status
    pub taken : OnlyTakenAway next.trees (trees_of folders)
    pub stands : standing_of config folders vault next.last ≡ record next { trees = trees_of folders }

  -- A fix of what stood after a history went to its end, and left these folders. It met no hash by chance, and restored what was last synced.
  pub record IsFixedWhole (folders : List FolderView) : Type 0 where
    pub first : Standing
    pub standing : Standing
    pub next : Standing
    pub stages : List (Stage O F V W)
    pub run : RunOf O F V W
    pub origin : IsOrigin first
    pub history : IsHistory opener_view folder_view vault_view sink_view first stages standing
    pub goes : GoesOver opener_view folder_view vault_view sink_view run standing next
    pub fixes : FixesToItsEnd opener_view folder_view vault_view sink_view run
    pub trees_are : next.trees ≡ trees_of folders
    pub restored : IsRestored (before_of opener_view folder_view vault_view sink_view run) (after_of opener_view folder_view vault_view sink_view run)
        run.status goes.step.always.did standing.last next.trees
