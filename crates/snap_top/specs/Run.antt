-- What a run leaves, and why it ended so.
use Rattle.std.specs.Prelude.{◌≡◌, ℕ, List, [], length, Bool, true, false, IsTrue, Option, None, Some, Ok, Err}
use Rattle.content_file.specs.Load.{LoadFails, LoadIsDamaged}
use Rattle.content_file.specs.declared.loading.LoadFault.{LoadFault}
use Rattle.content_file.specs.declared.loading.LoadFault.TheVariants as loads
use Rattle.disk_model.specs.Opener.{OpenerGoesOn, HoldsSame, SameVault}
use Rattle.disk_model.specs.Sink.{SinkView}
use Rattle.disk_model.specs.Vault.{VaultState, ChangesBy, Holds, IsSettled}
use Rattle.file_table.specs.Table.{Column, TableValue}
use Rattle.file_table.specs.Valid.{IsValid}
use Rattle.array_setup.specs.Setup.{SetupValue, setup_value}
use Rattle.snap_report.specs.Answer.{IsCaused}
use Rattle.snap_report.specs.EventLines.{lines_of}
use Rattle.snap_report.specs.Report.{ReportView, AllGiven}
use Rattle.snap_report.specs.declared.answer.Answer.{Answer}
use Rattle.snap_report.specs.Telling.{Tells, between}
use Rattle.snap_report.specs.declared.events.Event.{Event}
use Rattle.snap_top.specs.Array.{DiffersIn}
use Rattle.snap_top.specs.Does.{Does}
use Rattle.snap_top.specs.Task.{Task, Left, outside_of}
use Rattle.snap_top.specs.Effect.{Keeps, effect}
use Rattle.snap_top.specs.Did.{Did, reads_only}
use Rattle.snap_top.specs.End.{status_of, line_of}
use Rattle.snap_top.specs.Exercising.{AsksForExercise, Exercises}
use Rattle.snap_top.specs.Opening.{Refuses, IsGiven}
use Rattle.snap_top.specs.Views.{World, WorldView, world_of, view_of}
use Rattle.snap_top.specs.declared.end.Difference.{Difference}
use Rattle.snap_top.specs.declared.end.End.{End}
use Rattle.snap_top.specs.declared.end.End.TheVariants.{Refused, Worked, Exercised}
use Rattle.snap_top.specs.declared.end.Ending.{Ending}
use Rattle.snap_top.specs.declared.end.Ending.TheVariants.{NotLoaded, NoTable, OtherArray, Answered}
use Rattle.snap_top.specs.declared.end.Refusal.{Refusal}
use Rattle.snap_top.specs.Loading.{BeginsWith, LoadsFrom, LoadsInOrder, ReadsCopies}
use Rattle.snap_top.specs.Entry.{Entry, entry_by, Exit, exit_by}

-- ---- after the opening

-- of all that was opened, the content copies alone were read
pub record OnlyLoads (before after : World) : Type 0 where
  pub vault : ReadsCopies before.vault after.vault
  pub others : after ≡ record before { vault = after.vault }

abbrev pub LoadsNot : LoadFault → VaultState → VaultState → Type 0
LoadsNot loads.Failed old new = LoadFails (view_of old) (view_of new)
LoadsNot (loads.Damaged damages) old new = LoadIsDamaged (view_of old) (view_of new) damages
LoadsNot loads.Memory old new = Unit {0}

-- why a command has no table to begin with
abbrev pub BeginsNot : SetupValue → Option TableValue → Ending → Type 0
BeginsNot setup loaded NoTable = loaded ≡ None
BeginsNot setup loaded (OtherArray difference content) = (loaded ≡ Some content) × DiffersIn setup content difference
BeginsNot setup loaded _ = ⊥

-- this content was loaded, and it is of another array
pub record IsOther (task : Task) (given after : World) (difference : Difference) (content : TableValue) : Type 0 where
  pub reads : OnlyLoads given after
  pub loads : LoadsFrom given.vault after.vault (Some content)
  pub order : LoadsInOrder (Ok (Some content)) given.vault after.vault
  pub differs : DiffersIn task.setup content difference

-- there is no content, and memory ran out for its table
pub record HasNoTable (given after : World) : Type 0 where
  pub reads : OnlyLoads given after
  pub loads : LoadsFrom given.vault after.vault None
  pub order : LoadsInOrder (Ok None) given.vault after.vault

-- the command was carried out, from what was loaded, and its answer has its cause in this run
pub record IsAnswered (task : Task) (given after : World) (left : Left) (did : Did) : Type 0 where
  pub loaded : Option TableValue
  pub start : World
  pub reads : OnlyLoads given start
  pub loads : LoadsFrom given.vault start.vault loaded
  pub order : LoadsInOrder (Ok loaded) given.vault start.vault
  pub table : TableValue
  pub begins : BeginsWith task.setup task.seed loaded table
  pub valid : IsValid table
  pub columns : length start.folders ≡ length table.columns
  pub does : Does task table start after left did
  pub caused : IsCaused left.answer left.counted left.told (outside_of given) (outside_of after)

-- nothing was told, and nothing was done to the files of the vault
abbrev pub IsIdle : List Event → Did → Type 0
IsIdle told did = (told ≡ []) × (did ≡ reads_only)

-- By the end: what the run did with all that it was given, and the events that it told.
abbrev pub Goes : Task → World → World → Ending → List Event → Did → Type 0
Goes task given after (NotLoaded fault) told did =
    IsIdle told did × OnlyLoads given after × LoadsNot fault given.vault after.vault × LoadsInOrder (Err fault) given.vault after.vault
Goes task given after NoTable told did = IsIdle told did × HasNoTable given after
Goes task given after (OtherArray difference content) told did = IsIdle told did × IsOther task given after difference content
Goes task given after (Answered answer named) told did = (counted : ℕ) × IsAnswered task given after (record { answer = answer; named = named; counted = counted; told = told }) did

-- the columns that give the names in the lines of these events
abbrev pub columns_in : (task : Task) (given after : World) (ending : Ending) (told : List Event) (did : Did) → Goes task given after ending told did → List Column
columns_in task given after (Answered answer named) told did goes = (effect did).told_columns goes.1.table
columns_in task given after _ told did goes = []

-- What holds of every run that opened its array, of what it was given.
pub record Works {R : Type 0} (standing : R → ReportView) (stands : R → List Event → Type 0) (task : Task)
    (given after : WorldView) (olds news : List R) (ending : Ending) : Type 0 where
  pub told : List Event
  pub did : Did
  pub goes : Goes task (world_of given) (world_of after) ending told did
  pub changes : ChangesBy (effect did).may_stand given.vault after.vault
  pub ends : IsTrue given.vault.tells → Holds ((effect did).stands_after given.vault.files) after.vault
  pub keeps : Keeps did (world_of given) (world_of after)
  pub reports : AllGiven standing stands (lines_of (columns_in task (world_of given) (world_of after) ending told did goes) told) told olds news

-- ---- a run

-- nothing was opened, told or printed, and the opener holds what it held, the vault too
pub record IsRefused (before : Entry) (exit : Exit) (why : Refusal) (told : List Event) : Type 0 where
  pub refuses : Refuses before.texts before.opener exit.opener why
  pub kept : HoldsSame before.opener exit.opener
  pub folders : exit.after.folders ≡ []
  pub no_vault : exit.has_vault ≡ false
  pub vault : SameVault before.opener.tells before.opener.vault exit.after.vault
  pub out : exit.after.out ≡ before.out
  pub untold : told ≡ []

-- All that was opened goes back. What was given is what the opener held, where it tells that, so all that is said of one is said of the other; only the
-- images, of which no equation can be held, are said of what was held.
pub record IsRun (before : Entry) (exit : Exit) (setup : SetupValue) (ending : Ending) (told : List Event) : Type 0 where
  pub task : Task
  pub setup_is : task.setup ≡ setup
  pub moment_is : task.moment ≡ before.moment
  pub seed_is : task.seed ≡ before.seed
  pub given : World
  pub is_given : IsGiven before.texts before.opener exit.opener task.command task.readers setup given.folders given.vault
  pub given_out : given.out ≡ before.out
  pub has_vault : exit.has_vault ≡ true
  pub did : Did
  -- function and causes
  pub goes : Goes task given (world_of exit.after) ending told did
  -- what stays
  pub keeps : Keeps did given (world_of exit.after)
  -- what every stop leaves, and what reads give; it began with nothing unsynced
  pub settled : IsTrue before.opener.tells → IsSettled before.opener.vault
  pub changes : IsTrue before.opener.tells → ChangesBy (effect did).may_stand before.opener.vault exit.after.vault
  pub ends : IsTrue before.opener.tells → IsTrue before.opener.vault.tells → Holds ((effect did).stands_after before.opener.vault.files) exit.after.vault

-- The words ask for an exercise, and it was made. The opener was asked for nothing and holds what it held, and no event was told.
pub record IsExercised (before : Entry) (exit : Exit) (answer : Answer) (told : List Event) : Type 0 where
  pub number : ℕ
  pub asks : AsksForExercise before.texts number
  pub exercises : Exercises number before.out exit.after.out answer
  pub uncalled : OpenerGoesOn before.opener exit.opener []
  pub unfailed : exit.opener.faults ≡ before.opener.faults
  pub kept : HoldsSame before.opener exit.opener
  pub folders : exit.after.folders ≡ []
  pub no_vault : exit.has_vault ≡ false
  pub vault : SameVault before.opener.tells before.opener.vault exit.after.vault
  pub untold : told ≡ []

abbrev pub Ran : Entry → Exit → End → List Event → Type 0
Ran before exit (Refused why) told = IsRefused before exit why told
Ran before exit (Worked setup ending) told = IsRun before exit (setup_value setup) ending told
Ran before exit (Exercised answer) told = IsExercised before exit answer told

-- the setup of a run that opened its array
abbrev pub setup_of : End → Option SetupValue
setup_of (Refused why) = None
setup_of (Worked setup ending) = Some (setup_value setup)
setup_of (Exercised answer) = None

-- the columns that give the names in the lines of its events
abbrev pub columns_of : (before : Entry) (exit : Exit) (end : End) (told : List Event) → Ran before exit end told → List Column
columns_of before exit (Refused why) told ran = []
columns_of before exit (Worked setup ending) told ran = columns_in ran.task ran.given (world_of exit.after) ending told ran.did ran.goes
columns_of before exit (Exercised answer) told ran = []

-- a run by the levels of its setup, with the events that it told the reports, and their lines
pub record RanWith {R : Type 0} (standing : R → ReportView) (stands : R → List Event → Type 0) (before : Entry) (exit : Exit)
    (olds news : List R) (end : End) : Type 0 where
  pub told : List Event
  pub ran : Ran (entry_by (setup_of end) before) (exit_by (setup_of end) exit) end told
  pub reports : AllGiven standing stands (lines_of (columns_of (entry_by (setup_of end) before) (exit_by (setup_of end) exit) end told ran) told) told olds news

-- A line on the standard error: the whole line, or a prefix of it where the sink failed.
pub record IsSaid (line : List ℕ) (old new : SinkView) : Type 0 where
  pub failed : Bool
  pub told : Tells line (between false old) (between failed new)

-- The end of a run, its status and its line.
pub record EndsWith {R : Type 0} (standing : R → ReportView) (stands : R → List Event → Type 0) (before : Entry) (exit : Exit)
    (olds news : List R) (status : ℕ) (err err_new : SinkView) : Type 0 where
  pub end : End
  pub ran : RanWith standing stands before exit olds news end
  pub status_is : status ≡ status_of end
  pub said : IsSaid (line_of end) err err_new

-- How a run ended, the events that it told, and all that it did.
pub record HasAccount (before : Entry) (exit : Exit) (status : ℕ) : Type 0 where
  pub end : End
  pub told : List Event
  pub ran : Ran before exit end told
  pub status_is : status ≡ status_of end

-- so it is of each run whose opener tells what it holds
abbrev pub IsAccounted : Entry → Exit → ℕ → Type 0
IsAccounted before exit status = IsTrue before.opener.tells → HasAccount before exit status
