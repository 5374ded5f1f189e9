-- A sync that was stopped at some moment or ended, a run that changes nothing, and one more sync: an instance of what the laws on stopped syncs
-- suppose.
use Rattle.std.specs.Prelude.{◌≡◌, ◌≢◌, ℕ, ◌<◌, List, [], ◌∷◌, length, false, None}
use Rattle.content_file.specs.Load.{HasFailed}
use Rattle.disk_model.specs.Files.{Files, content_of, parity_of}
use Rattle.disk_model.specs.Folder.{FolderView}
use Rattle.disk_model.specs.Opener.{OpenerView}
use Rattle.disk_model.specs.Sink.{SinkView}
use Rattle.disk_model.specs.Tree.{Tree}
use Rattle.disk_model.specs.Vault.{VaultView}
use Rattle.file_table.specs.Table.{TableValue}
use Rattle.array_setup.specs.Setup.{SetupValue}
use Rattle.snap_sync.specs.Part.{IsFullSync, SyncRun}
use Rattle.snap_sync.specs.Resumed.{EndsAs}
use Rattle.snap_top.specs.LastSynced.{AreSoundBy, LastSynced}
use Rattle.snap_top.specs.Moment.{IsSoundAlways}
use Rattle.snap_top.specs.Effect.{effect}
use Rattle.snap_top.specs.Resumed.{AreStoppedRuns, EndsClean, IsBetween, IsStopped, AreStopped, IsOfArray, Stop, SyncsFrom}
use Rattle.snap_top.specs.RunOf.{RunOf, StoppedRun}
use Rattle.snap_top.specs.Standing.{after_of, before_of}
use Rattle.snap_top.specs.Sync.{HasNoCopy, EndAlike}
use Rattle.snap_top.specs.Did.{syncs}

-- Nothing counts as changed from outside.
abbrev pub IsUnchanged : LastSynced → Type 0
IsUnchanged last = (stripe level : ℕ) → last.is_changed stripe level ≡ false

-- There was no content copy. A sync was stopped at some moment or ended, and left one. One more of what that left ended as the full sync of what
-- there was before, which writes parity.
pub record AreResumedSyncs : Type 0 where
  pub setup : SetupValue
  pub trees : List Tree
  pub seed : List ℕ
  pub copies : ℕ
  pub stops : List Stop
  pub files : Files
  pub left : Files
  pub whole : SyncRun
  pub last : SyncRun
  pub synced : LastSynced
  pub now : ℕ
  pub again : ℕ
  pub table : TableValue
  pub other_table : TableValue
  pub one : Files
  pub other : Files
  pub some : 0 < length stops
  pub none : HasNoCopy copies files
  pub there : content_of left 0 ≢ None
  pub wrote : 0 < length (parity_of one 0)
  pub unchanged : IsUnchanged synced
  pub from : SyncsFrom seed copies files whole
  pub of_array : IsOfArray setup trees whole
  pub sound : AreSoundBy copies files synced
  pub stopped : AreStopped setup trees seed copies stops files left
  pub last_from : SyncsFrom seed copies left last
  pub last_of : IsOfArray setup trees last
  pub full : IsFullSync setup whole.loaded trees now files table one
  pub last_full : IsFullSync setup last.loaded trees again left other_table other
  pub alike : EndsAs whole.plan.start synced.is_changed table other_table one other

module _ {O F V W : Type 0} (opener_view : O → OpenerView) (folder_view : F → FolderView) (vault_view : V → VaultView) (sink_view : W → SinkView) where
  -- The same of runs: one that was stopped or ended, one that changes nothing, and one that ended with status 0. They left what one does that
  -- ended so.
  pub record AreResumedRuns : Type 0 where
    pub setup : SetupValue
    pub trees : List Tree
    pub seed : List ℕ
    pub stop : StoppedRun O F V W
    pub between : StoppedRun O F V W
    pub files : Files
    pub one : Files
    pub other : Files
    pub whole : RunOf O F V W
    pub last : RunOf O F V W
    pub synced : LastSynced
    pub none : HasNoCopy (length setup.contents) files
    pub there : content_of between.left 0 ≢ None
    pub wrote : 0 < length (parity_of one 0)
    pub unchanged : IsUnchanged synced
    pub clean : EndsClean opener_view folder_view vault_view sink_view setup trees seed files whole one
    pub sound : AreSoundBy (length setup.contents) files synced
    pub is_stopped : IsStopped opener_view folder_view vault_view sink_view setup trees seed files stop
    pub is_between : IsBetween opener_view folder_view vault_view sink_view setup trees seed stop.left between
    pub stopped : AreStoppedRuns opener_view folder_view vault_view sink_view setup trees seed (stop ∷ between ∷ []) files between.left
    pub resumed : EndsClean opener_view folder_view vault_view sink_view setup trees seed between.left last other
    pub alike : EndAlike (length setup.contents) synced.is_changed one other

  -- In a sync of a vault that has a content copy no reading of a copy failed. So none did while it loaded its table.
  pub record IsLoadedWell : Type 0 where
    pub run : RunOf O F V W
    pub sync : SyncRun
    pub always : IsSoundAlways (before_of opener_view folder_view vault_view sink_view run) (after_of opener_view folder_view vault_view sink_view run) run.status
    pub there : content_of (before_of opener_view folder_view vault_view sink_view run).opener.vault.files 0 ≢ None
    pub did_is : always.did ≡ syncs false sync
    pub none : (copy : ℕ) → ¬ (HasFailed (before_of opener_view folder_view vault_view sink_view run).opener.vault
        (after_of opener_view folder_view vault_view sink_view run).after.vault copy)
    pub loads : (effect always.did).loads_well (before_of opener_view folder_view vault_view sink_view run)
        (after_of opener_view folder_view vault_view sink_view run) always.is_did

  -- all three
  pub record IsResumedAll : Type 0 where
    pub runs : AreResumedRuns
    pub syncs : AreResumedSyncs
    pub loaded : IsLoadedWell
