-- What every run promises by its status alone, and when a run surely ends well, if memory does not run out.
use Rattle.std.specs.Prelude.{◌≡◌, ◌⊎◌, ℕ, ◌<◌, ◌≤◌, List, length, take, true, false, IsTrue, Option, Some, None, Ok}
use Rattle.array_scan.specs.declared.fault.ScanFault.{ScanFault}
use Rattle.array_scan.specs.declared.fault.ScanFault.TheVariants as scans
use Rattle.content_file.specs.Load.{LoadsTable}
use Rattle.content_file.specs.Spelling.{IsContent}
use Rattle.disk_model.specs.Cause.{Rose}
use Rattle.disk_model.specs.Files.{Stays, content_of}
use Rattle.disk_model.specs.Folder.{FolderView}
use Rattle.disk_model.specs.Opener.{HoldsSame, folder_held}
use Rattle.disk_model.specs.Sink.{SinkView}
use Rattle.disk_model.specs.Vault.{VaultView, ChangesBy, copies_of, state_of}
use Rattle.file_table.specs.Table.{TableValue}
use Rattle.snap_config.specs.Config.{read_setup}
use Rattle.array_setup.specs.Setup.{SetupValue}
use Rattle.snap_config.specs.declared.options.Command.{Command}
use Rattle.snap_config.specs.declared.options.Command.TheVariants as commands
use Rattle.snap_config.specs.declared.options.Options.{Options}
use Rattle.array_setup.specs.declared.ways.SyncWay.{SyncWay}
use Rattle.snap_sync.specs.Beginning.{RefusesLayout}
use Rattle.snap_top.specs.Array.{Matches}
use Rattle.snap_top.specs.Exercising.{AsksForExercise}
use Rattle.snap_top.specs.Known.{unknown_in}
use Rattle.snap_top.specs.Asked.{asked_by}
use Rattle.snap_top.specs.Loading.{BeginsWith, LoadsFrom}
use Rattle.snap_top.specs.Entry.{Entry, Exit}
use Rattle.snap_top.specs.Views.{folder_at}
use Rattle.snap_top.specs.Unbroken.{held_vault, left_vault, NothingBroke}

-- ---- refusals, and the standard error of a run that is done

-- Nothing was printed, and neither parity nor content changed: what was opened reads as it did and a stop leaves the same, or nothing was opened.
pub record TouchesNothing (before : Entry) (exit : Exit) : Type 0 where
  pub out : exit.after.out ≡ before.out
  pub opened : exit.has_vault ≡ true → IsTrue before.opener.tells → ChangesBy Stays before.opener.vault exit.after.vault
  pub unopened : exit.has_vault ≡ false → HoldsSame before.opener exit.opener

-- so does a run with status 2 or 5
abbrev pub RefusalsTouchNothing : Entry → Exit → ℕ → Type 0
RefusalsTouchNothing before exit status = (status ≡ 2) ⊎ (status ≡ 5) → TouchesNothing before exit

-- with status 0 or 1 nothing is written to the standard error
abbrev pub IsSilent : ℕ → SinkView → SinkView → Type 0
IsSilent status err err_new = status ≤ 1 → IsTrue err.tells → err_new.written ≡ err.written

-- ---- completeness

-- content is absent, or some copy is a content file
abbrev pub HasContentOrNone : VaultView → Type 0
HasContentOrNone v =
    ((copy : ℕ) → copy < copies_of v → content_of v.files copy ≡ None)
    ⊎ ((copy : ℕ) × (bytes : List ℕ) × (copy < copies_of v) × (content_of v.files copy ≡ Some bytes) × IsContent bytes)

-- The table that a run begins with: what was loaded in it of what the opener held, or, without a copy, that of an array without content.
pub record MayBegin (before : Entry) (exit : Exit) (setup : SetupValue) (table : TableValue) : Type 0 where
  pub loaded : Option TableValue
  pub loads : LoadsFrom (state_of before.opener.vault) (state_of exit.after.vault) loaded
  pub begins : BeginsWith setup before.seed loaded table

-- these are the folders that the opener held, one for each directory
abbrev pub AreHeld : Entry → SetupValue → List FolderView → Type 0
AreHeld before setup folders =
    (length folders ≡ length setup.dirs) × ((d : ℕ) → d < length folders → folder_at folders d ≡ folder_held before.opener d)

-- A sync's layout is not refused: of a table that the run may begin with, over what its folders list.
abbrev pub IsUnrefused : Entry → Exit → Command → SetupValue → Type 0
IsUnrefused before exit command setup = (way : SyncWay) (table : TableValue) (folders : List FolderView) (fault : ScanFault) → command ≡ commands.Sync way → MayBegin before exit setup table → AreHeld before setup folders
    → RefusesLayout setup way table folders exit.after.folders fault → fault ≡ scans.Memory

-- Words and configuration are accepted, all names that are selected are known, nothing failed so that a run ends, what is first read of the
-- content is of the configuration's array, and no layout is refused. All that is said here of what the opener holds, it tells.
pub record IsSmooth (before : Entry) (exit : Exit) : Type 0 where
  pub asked : Options
  pub words : asked_by before.texts ≡ Ok asked
  pub setup : SetupValue
  pub tells : IsTrue before.opener.tells
  pub tells_vault : IsTrue before.opener.vault.tells
  pub configuration : read_setup (take 1048577 before.opener.config) asked.log ≡ Ok setup
  pub known : unknown_in setup asked.command ≡ None
  pub unbroken : NothingBroke before exit
  pub out : ¬ (Rose before.out.faults exit.after.out.faults)
  pub content : HasContentOrNone (held_vault before)
  pub layout : IsUnrefused before exit asked.command setup
  pub agrees : (table : TableValue) → LoadsTable (held_vault before) (left_vault exit) table → Matches setup table

-- The words ask for an exercise, and the output did not fail. Nothing is supposed of the opener, which is asked for nothing.
pub record IsSmoothExercise (before : Entry) (exit : Exit) : Type 0 where
  pub number : ℕ
  pub asks : AsksForExercise before.texts number
  pub out : ¬ (Rose before.out.faults exit.after.out.faults)

-- then it is done, or memory ran out
abbrev pub SmoothRunsAreDone : Entry → Exit → ℕ → Type 0
SmoothRunsAreDone before exit status = IsSmooth before exit ⊎ IsSmoothExercise before exit → (status ≤ 1) ⊎ (status ≡ 4)
