-- An array in memory with all that happened to it: an instance of what `snap_top::laws::headline` supposes.
use Rattle.std.specs.Prelude.{◌≡◌, ℕ, List, [], ◌∷◌, ◌++◌, length, take, Option, Some, IsTrue, Ok}
use Rattle.disk_model.specs.Files.{Files}
use Rattle.disk_model.specs.Folder.{FolderView}
use Rattle.disk_model.specs.Opener.{OpenerView}
use Rattle.disk_model.specs.Sink.{SinkView}
use Rattle.disk_model.specs.Tree.{Tree}
use Rattle.disk_model.specs.Vault.{IsSettled, VaultView, copies_of}
use Rattle.disk_memory.specs.Given.{HasNoDraft}
use Rattle.snap_config.specs.Config.{read_setup}
use Rattle.array_setup.specs.Setup.{SetupValue}
use Rattle.snap_config.specs.declared.options.Command.{Command}
use Rattle.snap_config.specs.declared.options.Command.TheVariants as commands
use Rattle.snap_config.specs.declared.options.Options.{Options}
use Rattle.array_setup.specs.declared.ways.Selection.{Selection}
use Rattle.array_setup.specs.declared.ways.SyncWay.{SyncWay}
use Rattle.snap_sync.specs.Part.{trees_of}
use Rattle.snap_top.specs.LastSynced.{LastSynced}
use Rattle.snap_top.specs.Levels.{by_setup, said_by}
use Rattle.snap_top.specs.Asked.{asked_by, ChangesNothing}
use Rattle.snap_top.specs.Stands.{StandsAfter}
use Rattle.snap_top.specs.Headline.{FixesToItsEnd, IsSyncOver, SyncsClean, SyncsWell}
use Rattle.snap_top.specs.RestoredLast.{IsRestored}
use Rattle.snap_top.specs.Sync.{EndAlike}
use Rattle.snap_top.specs.RunOf.{RunOf}
use Rattle.snap_top.specs.Standing.{BeginsOver, Change, GoesOver, IsHistory, IsOrigin, Runs, Stage, Standing, after_of, before_of}
use Rattle.snap_top.specs.Effect.{effect}
use Rattle.snap_top.specs.Step.{RunStep}
use Rattle.snap_top.specs.SyncedLast.{IsSyncedLast}

-- ---- what stands between two runs

-- what a vault reads, by the levels of a configuration
abbrev pub files_seen : List ℕ → VaultView → Files
files_seen config vault = (by_setup (said_by config) vault).files

-- by the configuration, the folders, the vault, and what was last synced
abbrev pub standing_of : List ℕ → List FolderView → VaultView → LastSynced → Standing
standing_of config folders vault last = record { config = config; trees = trees_of folders; copies = copies_of vault; files = files_seen config vault; last = last }

-- a vault that was just opened: no call was made, nothing is unsynced, and there is no draft
pub record IsNew (vault : VaultView) : Type 0 where
  pub settled : IsSettled vault
  pub drafts : HasNoDraft vault
  pub moment : vault.images.moment ≡ 0
  pub faults : vault.faults ≡ 0

-- a vault that was just opened with what a stop at some moment may leave of another one
pub record IsLeftOf (vault made : VaultView) : Type 0 where
  pub is_new : IsNew made
  pub copies : copies_of made ≡ copies_of vault
  pub told : IsTrue vault.images.told
  pub left : vault.images.since 0 made.files

-- ---- what is asked for

-- the commands that may meet no hash by chance
abbrev pub IsNoFix : Command → Type 0
IsNoFix (commands.Fix selection) = ⊥
IsNoFix _ = Unit {0}

-- the words ask for such a command
pub record AskForNoFix (texts : List (List ℕ)) : Type 0 where
  pub asked : Options
  pub words : asked_by texts ≡ Ok asked
  pub is_none : IsNoFix asked.command

-- the words ask for a command that changes nothing
pub record AskForNoChange (texts : List (List ℕ)) : Type 0 where
  pub asked : Options
  pub words : asked_by texts ≡ Ok asked
  pub changes_nothing : ChangesNothing asked.command

-- a configuration says this setup
pub record SaysSetup (config : List ℕ) (log : Option (List ℕ)) : Type 0 where
  pub setup : SetupValue
  pub says : read_setup (take 1048577 config) log ≡ Ok setup

-- the words ask for a sync, by this configuration
pub record AskForSync (texts : List (List ℕ)) (config : List ℕ) : Type 0 where
  pub asked : Options
  pub way : SyncWay
  pub words : asked_by texts ≡ Ok asked
  pub command_is : asked.command ≡ commands.Sync way
  pub setup : SaysSetup config asked.log

-- the words ask for a fix
pub record AskForFix (texts : List (List ℕ)) : Type 0 where
  pub asked : Options
  pub selection : Selection
  pub words : asked_by texts ≡ Ok asked
  pub command_is : asked.command ≡ commands.Fix selection

-- ---- what happened

-- how a run ended, if this is one
abbrev pub ended_by : {O F V W : Type 0} → Change O F V W → List ℕ
ended_by (Runs run) = run.status ∷ []
ended_by _ = []

-- how the runs of a history ended
abbrev pub statuses_of : {O F V W : Type 0} → List (Stage O F V W) → List ℕ
statuses_of [] = []
statuses_of (stage ∷ stages) = ended_by stage.change ++ statuses_of stages

module _ {O F V W : Type 0} (opener_view : O → OpenerView) (folder_view : F → FolderView) (vault_view : V → VaultView) (sink_view : W → SinkView) where
  -- A run of these words over an array that tells all, from a vault that was just opened. It ended with this status and left these folders and this vault.
  pub record RunsOver (config : List ℕ) (texts : List (List ℕ)) (seed : List ℕ) (folders : List FolderView) (vault : VaultView)
      (status : ℕ) (left_folders : List F) (left_vault : V) : Type 0 where
    pub run : RunOf O F V W
    pub texts_are : run.texts ≡ texts
    pub seed_is : run.seed ≡ seed
    pub status_is : run.status ≡ status
    pub folders_are : run.folders ≡ left_folders
    pub vault_is : run.vault ≡ Some left_vault
    pub begins : (last : LastSynced) → BeginsOver (standing_of config folders vault last) (before_of opener_view folder_view vault_view sink_view run)
    pub moment : (before_of opener_view folder_view vault_view sink_view run).opener.vault.images.moment ≡ 0
    pub faults : (before_of opener_view folder_view vault_view sink_view run).opener.vault.faults ≡ 0
    pub step : RunStep (before_of opener_view folder_view vault_view sink_view run) (after_of opener_view folder_view vault_view sink_view run) run.status

  -- A history from an array without content to what stands now, of runs that ended so.
  pub record HasHistory (config : List ℕ) (folders : List FolderView) (vault : VaultView) (statuses : List ℕ) : Type 0 where
    pub first : Standing
    pub stages : List (Stage O F V W)
    pub last : LastSynced
    pub origin : IsOrigin first
    pub history : IsHistory opener_view folder_view vault_view sink_view first stages (standing_of config folders vault last)
    pub statuses_are : statuses_of stages ≡ statuses

  -- A sync of an array without content; another one of the same array, stopped at some moment; a run over what that left, which changed nothing;
  -- and a sync of what there was then. The first and the last ended with status 0. So they left the same.
  pub record IsResumedOnce : Type 0 where
    pub first : Standing
    pub later : Standing
    pub still : Standing
    pub once : Standing
    pub again : Standing
    pub setup : SetupValue
    pub trees : List Tree
    pub seed : List ℕ
    pub stopped : RunOf O F V W
    pub between : RunOf O F V W
    pub whole : RunOf O F V W
    pub last : RunOf O F V W
    pub origin : IsOrigin first
    pub sync : IsSyncOver opener_view folder_view vault_view sink_view setup trees seed first stopped later
    pub goes_between : GoesOver opener_view folder_view vault_view sink_view between later still
    pub stays : still.files ≡ later.files
    pub clean : SyncsClean opener_view folder_view vault_view sink_view setup trees seed first whole once
    pub resumed : SyncsClean opener_view folder_view vault_view sink_view setup trees seed still last again
    pub alike : EndAlike (length setup.contents) first.last.is_changed once.files again.files

  -- A sync of what stands after a history went to its end with this status, and its end stands next. The rows that it verified are what was
  -- last synced.
  pub record IsSyncedAtLast (status : ℕ) : Type 0 where
    pub first : Standing
    pub standing : Standing
    pub next : Standing
    pub stages : List (Stage O F V W)
    pub run : RunOf O F V W
    pub origin : IsOrigin first
    pub history : IsHistory opener_view folder_view vault_view sink_view first stages standing
    pub status_is : run.status ≡ status
    pub goes : GoesOver opener_view folder_view vault_view sink_view run standing next
    pub syncs : SyncsWell opener_view folder_view vault_view sink_view run
    pub stands : StandsAfter (after_of opener_view folder_view vault_view sink_view run) next.files
    pub synced : IsSyncedLast (before_of opener_view folder_view vault_view sink_view run) (after_of opener_view folder_view vault_view sink_view run)
        run.status goes.step.always.did standing next

  -- A fix of what stands after a history went to its end with this status. If it met no hash by chance, it restored what was last synced.
  pub record IsFixedAtLast (status : ℕ) : Type 0 where
    pub first : Standing
    pub standing : Standing
    pub stages : List (Stage O F V W)
    pub run : RunOf O F V W
    pub origin : IsOrigin first
    pub history : IsHistory opener_view folder_view vault_view sink_view first stages standing
    pub status_is : run.status ≡ status
    pub begins : BeginsOver standing (before_of opener_view folder_view vault_view sink_view run)
    pub step : RunStep (before_of opener_view folder_view vault_view sink_view run) (after_of opener_view folder_view vault_view sink_view run) run.status
    pub fixes : FixesToItsEnd opener_view folder_view vault_view sink_view run
    pub restores : (effect step.always.did).meets_no_chance standing.last.snapshot
        → (next : Standing) × (goes : GoesOver opener_view folder_view vault_view sink_view run standing next)
        × (next.trees ≡ trees_of (after_of opener_view folder_view vault_view sink_view run).after.folders)
        × IsRestored (before_of opener_view folder_view vault_view sink_view run) (after_of opener_view folder_view vault_view sink_view run)
        run.status goes.step.always.did standing.last next.trees
