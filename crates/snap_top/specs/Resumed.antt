-- Syncs of runs that are stopped one after another, said by what `run` says of each of them. Runs that change nothing may stand between.
use Rattle.std.specs.Prelude.{◌≡◌, ◌⊎◌, ℕ, List, [], ◌∷◌, length, take, Ok}
use Rattle.disk_model.specs.Files.{Files}
use Rattle.disk_model.specs.Folder.{FolderView}
use Rattle.disk_model.specs.Opener.{OpenerView}
use Rattle.disk_model.specs.Sink.{SinkView}
use Rattle.disk_model.specs.Tree.{Tree}
use Rattle.disk_model.specs.Vault.{VaultView, IsSettled}
use Rattle.snap_config.specs.Config.{read_setup}
use Rattle.array_setup.specs.Setup.{SetupValue}
use Rattle.snap_config.specs.declared.options.Command.TheVariants as commands
use Rattle.snap_config.specs.declared.options.Options.{Options}
use Rattle.array_setup.specs.declared.ways.SyncWay.{SyncWay}
use Rattle.snap_sync.specs.Part.{trees_of, AllTell, SyncRun, run_trees}
use Rattle.snap_top.specs.Loading.{ReadsWell}
use Rattle.snap_top.specs.Moment.{EveryMomentIsSound, IsSoundAlways}
use Rattle.snap_top.specs.Effect.{effect}
use Rattle.snap_top.specs.InPart.{EndsInPart}
use Rattle.snap_top.specs.Asked.{asked_by, ChangesNothing}
use Rattle.snap_top.specs.Stands.{HoldsFresh, StandsAfter, StandsIn, TellsAll}
use Rattle.snap_top.specs.Entry.{Entry}
use Rattle.snap_top.specs.Sync.{HasNoCopy, BeginsFrom, SyncsOver}
use Rattle.snap_top.specs.RunOf.{end_of, entry_of, RunOf, StoppedRun}
use Rattle.snap_sync.specs.Images.{MayStand}

-- ---- one sync after another, each of which is stopped

-- A sync over the files of a vault, and no copy's reading failed.
pub record SyncsFrom (seed : List ℕ) (copies : ℕ) (files : Files) (run : SyncRun) : Type 0 where
  pub over : SyncsOver copies files run
  pub begins : BeginsFrom run.setup seed copies files run.loaded

-- a sync, and the files that a stop at some moment of it leaves
pub record Stop : Type 0 where
  pub run : SyncRun
  pub left : Files

-- by this setup, and over folders that tell their trees, which are these
pub record IsOfArray (setup : SetupValue) (trees : List Tree) (run : SyncRun) : Type 0 where
  pub setup_is : run.setup ≡ setup
  pub told : AllTell run.folders
  pub trees_are : run_trees run ≡ trees

pub record StopsFrom (setup : SetupValue) (trees : List Tree) (seed : List ℕ) (copies : ℕ) (files : Files) (stop : Stop) : Type 0 where
  pub syncs : SyncsFrom seed copies files stop.run
  pub of_array : IsOfArray setup trees stop.run
  pub moment : MayStand stop.run.plan stop.run.readings files stop.left

-- Each begins with what the one before it left.
abbrev pub AreStopped : SetupValue → List Tree → List ℕ → ℕ → List Stop → Files → Files → Type 0
AreStopped setup trees seed copies [] files left = left ≡ files
AreStopped setup trees seed copies (stop ∷ stops) files left =
    StopsFrom setup trees seed copies files stop × AreStopped setup trees seed copies stops stop.left left

-- ---- a sync of an array

-- A run was asked for a sync by this setup, over these trees and a vault that holds these files, opened anew. All is told. The seed matters only
-- where there is no copy.
pub record AsksForSync (setup : SetupValue) (trees : List Tree) (seed : List ℕ) (files : Files) (before : Entry) : Type 0 where
  pub asked : Options
  pub way : SyncWay
  pub words : asked_by before.texts ≡ Ok asked
  pub command_is : asked.command ≡ commands.Sync way
  pub says : read_setup (take 1048577 before.opener.config) asked.log ≡ Ok setup
  pub tells : TellsAll before
  pub settled : IsSettled before.opener.vault
  pub trees_are : trees_of before.opener.folders ≡ trees
  pub files_are : before.opener.vault.files ≡ files
  pub seed_is : HasNoCopy (length setup.contents) files → before.seed ≡ seed

module _ {O F V W : Type 0} (opener_view : O → OpenerView) (folder_view : F → FolderView) (vault_view : V → VaultView) (sink_view : W → SinkView)
    (setup : SetupValue) (trees : List Tree) (seed : List ℕ) where
  -- Such a sync ended with status 0, and this is what it left. No reading of a copy failed while its table was loaded.
  pub record EndsClean (files : Files) (run : RunOf O F V W) (left : Files) : Type 0 where
    pub asks : AsksForSync setup trees seed files (entry_of opener_view sink_view run)
    pub ends : EndsInPart (entry_of opener_view sink_view run) (end_of opener_view folder_view vault_view sink_view run) run.status
    pub reads_well : ReadsWell (entry_of opener_view sink_view run) ends.is_sync.loading.at
    pub clean : run.status ≡ 0
    pub stands : StandsAfter (end_of opener_view folder_view vault_view sink_view run) left

  -- Such a sync was stopped at some moment, or ended with whatever status. No reading of a copy failed while its table was loaded.
  pub record IsStopped (files : Files) (stop : StoppedRun O F V W) : Type 0 where
    pub asks : AsksForSync setup trees seed files (entry_of opener_view sink_view stop.run)
    pub always : IsSoundAlways (entry_of opener_view sink_view stop.run) (end_of opener_view folder_view vault_view sink_view stop.run) stop.run.status
    pub reads_well : (effect always.did).loads_well (entry_of opener_view sink_view stop.run) (end_of opener_view folder_view vault_view sink_view stop.run) always.is_did
    pub stands : StandsIn (entry_of opener_view sink_view stop.run) (end_of opener_view folder_view vault_view sink_view stop.run) stop.left

  -- A run of a command that changes nothing, by whichever configuration and over whichever trees, was stopped at some moment or ended. The vault was
  -- opened anew.
  pub record IsBetween (files : Files) (stop : StoppedRun O F V W) : Type 0 where
    pub asked : Options
    pub words : asked_by (entry_of opener_view sink_view stop.run).texts ≡ Ok asked
    pub command_is : ChangesNothing asked.command
    pub fresh : HoldsFresh (entry_of opener_view sink_view stop.run)
    pub files_are : (entry_of opener_view sink_view stop.run).opener.vault.files ≡ files
    pub sound : EveryMomentIsSound (entry_of opener_view sink_view stop.run) (end_of opener_view folder_view vault_view sink_view stop.run) stop.run.status
    pub stands : StandsIn (entry_of opener_view sink_view stop.run) (end_of opener_view folder_view vault_view sink_view stop.run) stop.left

  -- one after another, each over what the one before it left
  abbrev pub AreStoppedRuns : List (StoppedRun O F V W) → Files → Files → Type 0
  AreStoppedRuns [] files left = left ≡ files
  AreStoppedRuns (stop ∷ stops) files left = (IsStopped files stop ⊎ IsBetween files stop) × AreStoppedRuns stops stop.left left
