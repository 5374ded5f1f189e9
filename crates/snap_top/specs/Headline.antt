-- What is promised of whatever stands after a history: it is sound, a stopped sync is resumed, and a fix restores what was last synced.
use Rattle.std.specs.Prelude.{◌≡◌, ◌⊎◌, ℕ, ◌<◌, ◌≤◌, List, [], ◌∷◌, length, take, Bool, true, false, Ok}
use Rattle.content_file.specs.Save.{HasSaved}
use Rattle.content_file.specs.Spelling.{HoldsTable, spelling}
use Rattle.disk_model.specs.Files.{Files, content_of}
use Rattle.disk_model.specs.Folder.{FolderView}
use Rattle.disk_model.specs.Opener.{OpenerView}
use Rattle.disk_model.specs.Sink.{SinkView}
use Rattle.disk_model.specs.Tree.{Tree}
use Rattle.disk_model.specs.Vault.{VaultView, copies_of}
use Rattle.file_table.specs.Table.{TableValue}
use Rattle.file_table.specs.Valid.{IsValid}
use Rattle.snap_config.specs.Config.{read_setup}
use Rattle.array_setup.specs.Setup.{SetupValue}
use Rattle.snap_config.specs.declared.options.Command.TheVariants as commands
use Rattle.snap_config.specs.declared.options.Options.{Options}
use Rattle.array_setup.specs.declared.ways.Selection.{Selection}
use Rattle.array_setup.specs.declared.ways.SyncWay.{SyncWay}
use Rattle.snap_sync.specs.Part.{IsFullSync, tree_at, trees_of}
use Rattle.snap_fix.specs.Genuine.{AreGenuine, held_row}
use Rattle.snap_sync.specs.Resumed.{EndsAs}
use Rattle.snap_top.specs.Unbroken.{NothingBroke, NothingRose}
use Rattle.snap_top.specs.Fix.{FixRun}
use Rattle.snap_top.specs.LastSynced.{AreSoundBy, IsOfBytes}
use Rattle.snap_top.specs.Lost.{NamesLost}
use Rattle.snap_top.specs.Effect.{effect}
use Rattle.snap_top.specs.Asked.{asked_by, ChangesNothing}
use Rattle.snap_top.specs.Stands.{StandsAfter, StandsIn}
use Rattle.snap_top.specs.Naming.{EndsChecked, events_found}
use Rattle.snap_top.specs.NextFix.{RestoresAgain}
use Rattle.snap_top.specs.RestoredLast.{IsRestored}
use Rattle.snap_top.specs.RunOf.{RunOf}
use Rattle.snap_top.specs.Standing.{BeginsOver, Change, GoesOver, IsHistory, LeavesTrees, Runs, Stage, Standing, after_of, before_of}
use Rattle.snap_top.specs.Step.{RunStep}
use Rattle.snap_top.specs.Stopping.{FolderStandsIn}
use Rattle.snap_top.specs.Sync.{BeginsFrom, HasNoCopy, EndAlike}
use Rattle.snap_top.specs.SyncedLast.{IsSyncedLast}
use Rattle.snap_top.specs.Did.{fixes}

-- ---- it is sound

-- all content files are of arrays with blocks of one size
abbrev pub HaveOneSize : ℕ → Files → Type 0
HaveOneSize copies files = (one other : ℕ) (table other_table : TableValue) → one < copies → other < copies → IsValid table → IsValid other_table
    → HoldsTable table (content_of files one) → HoldsTable other_table (content_of files other)
    → table.shape.block_size ≡ other_table.shape.block_size

-- Each copy that is a content file is sound by what was last synced: it calls only those stripes synced whose levels are the sums of
-- the rows that were last synced, but for what was changed from outside. These rows are of bytes.
pub record IsSoundStanding (standing : Standing) : Type 0 where
  pub sound : AreSoundBy standing.copies standing.files standing.last
  pub bytes : IsOfBytes standing.last.snapshot
  pub one_size : HaveOneSize standing.copies standing.files

-- ---- a run that opened nothing

-- An opener holds what stands: the configuration, the trees, and the vault with its files.
pub record HoldsWhatStands (standing : Standing) (opener : OpenerView) : Type 0 where
  pub config : opener.config ≡ standing.config
  pub trees : trees_of opener.folders ≡ standing.trees
  pub copies : copies_of opener.vault ≡ standing.copies
  pub files : opener.vault.files ≡ standing.files

-- ---- a stopped sync is resumed

-- Each copy spells the table of a full sync but for the times of the last checks, and parity is its, but for what was changed from outside.
pub record EndsInFull (copies : ℕ) (is_changed : ℕ → ℕ → Bool) (table : TableValue) (full files : Files) : Type 0 where
  pub other_table : TableValue
  pub saved : HasSaved copies (spelling other_table) files
  pub alike : EndsAs table is_changed table other_table full files

module _ {O F V W : Type 0} (opener_view : O → OpenerView) (folder_view : F → FolderView) (vault_view : V → VaultView) (sink_view : W → SinkView) where
  -- A run over what stands was asked for a sync by this setup and over these trees. The seed matters only where there is no copy.
  pub record IsAskedToSync (setup : SetupValue) (trees : List Tree) (seed : List ℕ) (standing : Standing) (run : RunOf O F V W) : Type 0 where
    pub asked : Options
    pub way : SyncWay
    pub words : asked_by run.texts ≡ Ok asked
    pub command_is : asked.command ≡ commands.Sync way
    pub says : read_setup (take 1048577 standing.config) asked.log ≡ Ok setup
    pub trees_are : standing.trees ≡ trees
    pub seed_is : HasNoCopy (length setup.contents) standing.files → run.seed ≡ seed

  -- Such a run, stopped at any moment of it or ended with any status. No reading of a copy failed while its table was loaded.
  pub record IsSyncOver (setup : SetupValue) (trees : List Tree) (seed : List ℕ) (standing : Standing) (run : RunOf O F V W) (next : Standing) : Type 0 where
    pub goes : GoesOver opener_view folder_view vault_view sink_view run standing next
    pub asked : IsAskedToSync setup trees seed standing run
    pub reads_well : (effect goes.step.always.did).loads_well (before_of opener_view folder_view vault_view sink_view run)
        (after_of opener_view folder_view vault_view sink_view run) goes.step.always.is_did

  abbrev pub Syncs : SetupValue → List Tree → List ℕ → Standing → Change O F V W → Standing → Type 0
  Syncs setup trees seed standing (Runs run) next = IsSyncOver setup trees seed standing run next
  Syncs setup trees seed standing _ next = ⊥

  -- Each stage is such a sync, stopped at any moment or ended with any status, or it leaves the vault's files as they are.
  abbrev pub AreStoppedSyncs : SetupValue → List Tree → List ℕ → Standing → List (Stage O F V W) → Type 0
  AreStoppedSyncs setup trees seed standing [] = Unit {0}
  AreStoppedSyncs setup trees seed standing (stage ∷ stages) =
      (Syncs setup trees seed standing stage.change stage.next ⊎ (stage.next.files ≡ standing.files)) × AreStoppedSyncs setup trees seed stage.next stages

  -- such a sync was not stopped, and its status is 0
  pub record SyncsClean (setup : SetupValue) (trees : List Tree) (seed : List ℕ) (standing : Standing) (run : RunOf O F V W) (next : Standing) : Type 0 where
    pub sync : IsSyncOver setup trees seed standing run next
    pub clean : run.status ≡ 0
    pub stands : StandsAfter (after_of opener_view folder_view vault_view sink_view run) next.files

  -- Where syncs are stopped one after another, then one with status 0 leaves the table and the parity of a sync that was never stopped.
  abbrev pub IsResumed : Standing → Type 0
  IsResumed standing = (setup : SetupValue) (trees : List Tree) (seed : List ℕ) (stages : List (Stage O F V W)) (later once again : Standing) (whole last : RunOf O F V W)
      → IsHistory opener_view folder_view vault_view sink_view standing stages later → AreStoppedSyncs setup trees seed standing stages
      → SyncsClean setup trees seed standing whole once → SyncsClean setup trees seed later last again
      → EndAlike (length setup.contents) standing.last.is_changed once.files again.files

  -- It is the full sync of what stood before the first of them, from the table that the copies hold then.
  abbrev pub IsResumedInFull : Standing → Type 0
  IsResumedInFull standing = (setup : SetupValue) (trees : List Tree) (seed : List ℕ) (stages : List (Stage O F V W)) (later again : Standing) (last : RunOf O F V W)
      (loaded table : TableValue) (now : ℕ) (full : Files) → standing.copies ≡ length setup.contents
      → IsHistory opener_view folder_view vault_view sink_view standing stages later → AreStoppedSyncs setup trees seed standing stages
      → SyncsClean setup trees seed later last again
      → BeginsFrom setup seed standing.copies standing.files loaded → IsFullSync setup loaded trees now standing.files table full
      → EndsInFull standing.copies standing.last.is_changed table full again.files

  -- Runs that were refused, and those of commands that change nothing, are among what may stand between: what stands stays.
  abbrev pub IsQuiet : Standing → Type 0
  IsQuiet standing = (run : RunOf O F V W) (next : Standing) → GoesOver opener_view folder_view vault_view sink_view run standing next
      → ((run.status ≡ 2) ⊎ (run.status ≡ 5)) ⊎ ((asked : Options) × (asked_by run.texts ≡ Ok asked) × ChangesNothing asked.command)
      → next ≡ standing

  -- ---- a sync that went to its end

  -- A run was asked for a sync, and went to its end: its status is 0 or 1, or it is 3 and nothing failed but the output and readings.
  pub record SyncsWell (run : RunOf O F V W) : Type 0 where
    pub asked : Options
    pub way : SyncWay
    pub words : asked_by run.texts ≡ Ok asked
    pub command_is : asked.command ≡ commands.Sync way
    pub well : (run.status ≤ 1)
        ⊎ ((run.status ≡ 3)
        × NothingBroke (before_of opener_view folder_view vault_view sink_view run) (after_of opener_view folder_view vault_view sink_view run))

  -- what was last synced then, where what stands is its end
  abbrev pub SyncsLast : Standing → Type 0
  SyncsLast standing = (run : RunOf O F V W) (next : Standing) → (goes : GoesOver opener_view folder_view vault_view sink_view run standing next)
      → SyncsWell run → StandsAfter (after_of opener_view folder_view vault_view sink_view run) next.files
      → IsSyncedLast (before_of opener_view folder_view vault_view sink_view run) (after_of opener_view folder_view vault_view sink_view run)
      run.status goes.step.always.did standing next

  -- ---- a fix restores

  -- A run was asked for a fix, and went to its end: its status is 0 or 1, or it is 3 and nothing failed but the output and readings.
  pub record FixesToItsEnd (run : RunOf O F V W) : Type 0 where
    pub asked : Options
    pub selection : Selection
    pub words : asked_by run.texts ≡ Ok asked
    pub command_is : asked.command ≡ commands.Fix selection
    pub well : (run.status ≤ 1)
        ⊎ ((run.status ≡ 3)
        × NothingBroke (before_of opener_view folder_view vault_view sink_view run) (after_of opener_view folder_view vault_view sink_view run))

module _ {O F V W : Type 0} (opener_view : O → OpenerView) (folder_view : F → FolderView) (vault_view : V → VaultView) (sink_view : W → SinkView) where
  -- so each fix of what stands restores, that was not stopped
  abbrev pub FixesRestore : Standing → Type 0
  FixesRestore standing = (run : RunOf O F V W) (next : Standing) → (goes : GoesOver opener_view folder_view vault_view sink_view run standing next)
      → FixesToItsEnd opener_view folder_view vault_view sink_view run
      → next.trees ≡ trees_of (after_of opener_view folder_view vault_view sink_view run).after.folders
      → IsRestored (before_of opener_view folder_view vault_view sink_view run) (after_of opener_view folder_view vault_view sink_view run)
      run.status goes.step.always.did standing.last next.trees

  -- Each fix of what stands, also one that is stopped at any moment, spares the cells, the files and the levels that it leaves alone.
  abbrev pub FixesSpare : Standing → Type 0
  FixesSpare standing = (run : RunOf O F V W) (next : Standing) → (goes : GoesOver opener_view folder_view vault_view sink_view run standing next)
      → (effect goes.step.always.did).spares standing.trees next.trees standing.files next.files

  -- A fix that is stopped at any moment is resumed. Where a later one over what it left begins with the same table and goes to its end, and no count
  -- of faults rises in it, it has enough undamaged levels for each stripe that both look at, if the first one had; and each that was restorable is so
  -- again.
  abbrev pub FixesAreResumed : Standing → Type 0
  FixesAreResumed standing = (run again : RunOf O F V W) (next : Standing) (failed : Bool) (fix fix_again : FixRun)
      → (goes : GoesOver opener_view folder_view vault_view sink_view run standing next)
      → BeginsOver next (before_of opener_view folder_view vault_view sink_view again)
      → (step : RunStep (before_of opener_view folder_view vault_view sink_view again) (after_of opener_view folder_view vault_view sink_view again) again.status)
      → goes.step.always.did ≡ fixes failed fix → step.always.did ≡ fixes false fix_again → fix_again.loaded ≡ fix.loaded
      → NothingRose (before_of opener_view folder_view vault_view sink_view again) (after_of opener_view folder_view vault_view sink_view again)
      → RestoresAgain fix fix_again standing next

  -- ---- a check names

  -- A check of what stands that went to its end names what is lost by what was last synced, if it met no recorded hash by chance.
  abbrev pub ChecksName : Standing → Type 0
  ChecksName standing = (run : RunOf O F V W) → BeginsOver standing (before_of opener_view folder_view vault_view sink_view run)
      → (ends : EndsChecked (before_of opener_view folder_view vault_view sink_view run) (after_of opener_view folder_view vault_view sink_view run) run.status)
      → AreGenuine ends.run.plan (held_row ends.run.plan.table standing.last.snapshot) ends.run.stripes
      → NamesLost ends.run.plan ends.run.stripes standing.last.snapshot (events_found ends.run)

  -- ---- all of it

  -- Each copy is as it was, or spells a table of that very run: of a part sync of what was laid out, or with the marks of a scrub.
  abbrev pub LeavesCopies : Standing → Type 0
  LeavesCopies standing = (run : RunOf O F V W) (next : Standing) → (goes : GoesOver opener_view folder_view vault_view sink_view run standing next)
      → (effect goes.step.always.did).copies_are standing.copies standing.files next.files

  -- Trees stay, as a history supposes: at each moment of a run that fixed nothing the files of a folder are those that stood, at a stop before
  -- its end if the folder tells its calls.
  abbrev pub TreesStay : Standing → Type 0
  TreesStay standing = (run : RunOf O F V W) (d : ℕ) (left : Tree) → BeginsOver standing (before_of opener_view folder_view vault_view sink_view run)
      → (step : RunStep (before_of opener_view folder_view vault_view sink_view run) (after_of opener_view folder_view vault_view sink_view run) run.status)
      → (after_of opener_view folder_view vault_view sink_view run).has_vault ≡ true → (effect step.always.did).writes_files ≡ false
      → FolderStandsIn (before_of opener_view folder_view vault_view sink_view run) (after_of opener_view folder_view vault_view sink_view run) d left
      → left ≡ tree_at standing.trees d

  -- Where a run opened nothing, its opener holds what stands.
  abbrev pub UnopenedStays : Standing → Type 0
  UnopenedStays standing = (run : RunOf O F V W) → BeginsOver standing (before_of opener_view folder_view vault_view sink_view run)
      → RunStep (before_of opener_view folder_view vault_view sink_view run) (after_of opener_view folder_view vault_view sink_view run) run.status
      → (after_of opener_view folder_view vault_view sink_view run).has_vault ≡ false
      → HoldsWhatStands standing (after_of opener_view folder_view vault_view sink_view run).opener

  -- Whatever moment a run over what stands is stopped at, something stands next, by that very account of the run.
  abbrev pub GoesOn : Standing → Type 0
  GoesOn standing = (run : RunOf O F V W) (files : Files) (trees : List Tree) → BeginsOver standing (before_of opener_view folder_view vault_view sink_view run)
      → (step : RunStep (before_of opener_view folder_view vault_view sink_view run) (after_of opener_view folder_view vault_view sink_view run) run.status)
      → StandsIn (before_of opener_view folder_view vault_view sink_view run) (after_of opener_view folder_view vault_view sink_view run) files
      → LeavesTrees (effect step.always.did).writes_files (before_of opener_view folder_view vault_view sink_view run) (after_of opener_view folder_view vault_view sink_view run) standing.trees trees
      → (effect step.always.did).meets_no_chance standing.last.snapshot
      → (next : Standing) × (next.files ≡ files) × (next.trees ≡ trees)
      × (goes : GoesOver opener_view folder_view vault_view sink_view run standing next) × (goes.step ≡ step)

  -- Where a run opened its array, what it leaves of the vault and of the trees at its end stands next, by that very account of the run.
  abbrev pub ArrivesAtItsEnd : Standing → Type 0
  ArrivesAtItsEnd standing = (run : RunOf O F V W) → BeginsOver standing (before_of opener_view folder_view vault_view sink_view run)
      → (step : RunStep (before_of opener_view folder_view vault_view sink_view run) (after_of opener_view folder_view vault_view sink_view run) run.status)
      → (after_of opener_view folder_view vault_view sink_view run).has_vault ≡ true → (effect step.always.did).meets_no_chance standing.last.snapshot
      → (next : Standing) × (next.files ≡ (after_of opener_view folder_view vault_view sink_view run).after.vault.files)
      × (next.trees ≡ trees_of (after_of opener_view folder_view vault_view sink_view run).after.folders)
      × (goes : GoesOver opener_view folder_view vault_view sink_view run standing next) × (goes.step ≡ step)

  pub record Headline (standing : Standing) : Type 0 where
    pub sound : IsSoundStanding standing
    pub resumed : IsResumed opener_view folder_view vault_view sink_view standing
    pub in_full : IsResumedInFull opener_view folder_view vault_view sink_view standing
    pub synced : SyncsLast opener_view folder_view vault_view sink_view standing
    pub restores : FixesRestore standing
    pub spares : FixesSpare standing
    pub resumes : FixesAreResumed standing
    pub names : ChecksName standing
    pub copies : LeavesCopies standing
    pub quiet : IsQuiet opener_view folder_view vault_view sink_view standing
    pub trees : TreesStay standing
    pub unopened : UnopenedStays standing
    pub goes_on : GoesOn standing
    pub arrives : ArrivesAtItsEnd standing
