-- What the sync of a run does, from the table that it begins with.
use Rattle.std.specs.Prelude.{◌≡◌, ℕ, ◌+◌, ◌≤◌, List, [], ◌++◌, length, Bool, true, false, Option, None, Some}
use Rattle.array_scan.specs.declared.fault.ScanFault.TheVariants as scans
use Rattle.content_file.specs.Save.{HasSaved, HasNoDraft}
use Rattle.content_file.specs.Spelling.{spelling}
use Rattle.disk_model.specs.Folder.{FolderView}
use Rattle.disk_model.specs.Vault.{VaultView, Holds}
use Rattle.file_table.specs.Table.{TableValue}
use Rattle.array_setup.specs.Setup.{SetupValue}
use Rattle.array_setup.specs.declared.ways.SyncWay.{SyncWay}
use Rattle.snap_report.specs.EventLines.{lines_of}
use Rattle.snap_report.specs.Telling.{Tells, between}
use Rattle.snap_report.specs.Text.{sync_text}
use Rattle.snap_report.specs.declared.answer.Answer.{Answer}
use Rattle.snap_report.specs.declared.answer.Answer.TheVariants as answers
use Rattle.snap_report.specs.declared.answer.RunFault.TheVariants as runs
use Rattle.snap_sync.specs.Beginning.{LaysOut, BeginsNot}
use Rattle.snap_sync.specs.Calls.{SyncPlan}
use Rattle.snap_sync.specs.Closing.{closed, verified_in}
use Rattle.snap_sync.specs.Course.{BreaksInWindow, TouchesVault, plan_of}
use Rattle.stripe_findings.specs.Findings.{events_of}
use Rattle.snap_sync.specs.Images.{HasParityAfter}
use Rattle.snap_sync.specs.Part.{SyncRun}
use Rattle.stripe_findings.specs.Reading.{StripeReading}
use Rattle.snap_sync.specs.Reading.{ReadsFirst}
use Rattle.snap_sync.specs.Work.{more_findings}
use Rattle.snap_sync.specs.declared.fault.SyncFault.{SyncFault}
use Rattle.snap_sync.specs.declared.fault.SyncFault.TheVariants.{Scan, Run}
use Rattle.stripe_reader.specs.WindowValue.{stripe_count}
use Rattle.snap_top.specs.Task.{Task, Left, Prints}
use Rattle.snap_top.specs.Did.{Did, reads_only, syncs}
use Rattle.snap_top.specs.Views.{World, AreAllOpen, view_of}

-- folders and a vault that were opened for this configuration, and a table of its array
pub record IsOpened (setup : SetupValue) (table : TableValue) (folders : List FolderView) (vault : VaultView) : Type 0 where
  pub are_open : AreAllOpen folders
  pub folders_are : length folders ≡ length setup.disks
  pub columns : length table.columns ≡ length setup.disks
  pub levels : vault.levels ≡ table.shape.levels

-- the plan of the sync of a laid out table
abbrev pub plan_for : Task → SyncWay → TableValue → World → SyncPlan
plan_for task way start before = plan_of task.setup way start task.moment (view_of before.vault)

-- the sync as a whole, by what was laid out, listed and read
abbrev pub run_of : Task → SyncWay → TableValue → World → World → TableValue → List FolderView → List StripeReading → List StripeReading → SyncRun
run_of task way table before after start listed readings ahead = record {
  setup = task.setup;
  loaded = table;
  plan = plan_for task way start before;
  readings = readings;
  ahead = ahead;
  folders = before.folders;
  listed = listed;
  ended = after.folders;
}

-- the answer of a sync that did not end, and the table of the file that it names
abbrev pub answer_of : SyncFault → Answer
answer_of (Scan (scans.Zeroed disk rec) table) = answers.Zeroed disk rec
answer_of (Scan (scans.Emptied disk) table) = answers.Emptied disk
answer_of (Scan (scans.Full blocks files) table) = answers.Full blocks files
answer_of (Scan scans.Memory table) = answers.Broken runs.Memory
answer_of (Run fault) = answers.Broken fault

abbrev pub named_of : SyncFault → Option TableValue
named_of (Scan fault table) = Some table
named_of (Run _) = None

-- The folders were listed and laid out; these pending stripes were read, told and written as far as no call failed, and those ahead
-- were read besides. Just the calls of such a sync were made, and each image at each moment is one of theirs.
pub record SyncCourse (task : Task) (way : SyncWay) (table : TableValue) (failed : Bool) (before after : World) (left : Left) (did : Did) : Type 0 where
  pub start : TableValue
  pub listed : List FolderView
  pub laid : LaysOut task.setup way table start before.folders listed
  pub readings : List StripeReading
  pub ahead : List StripeReading
  pub did_is : did ≡ syncs failed (run_of task way table before after start listed readings ahead)
  pub reads : ReadsFirst start (readings ++ ahead) listed after.folders
  pub vault : TouchesVault (plan_for task way start before) failed readings (view_of before.vault) (view_of after.vault)
  pub told_is : left.told ≡ events_of start readings

-- A sync that ended: all pending stripes were read, those that are verified are synced in the table that every copy spells, and parity
-- has their sums. It printed the lines of its events and its last line.
pub record SyncEnds (task : Task) (way : SyncWay) (table : TableValue) (before after : World) (left : Left) (did : Did) : Type 0 where
  pub course : SyncCourse task way table false before after left did
  pub all : length course.readings ≡ (plan_for task way course.start before).all
  pub synced : ℕ
  pub pending : ℕ
  pub synced_is : synced ≡ verified_in course.start course.readings
  pub pending_is : synced + pending ≡ (plan_for task way course.start before).all
  pub saved : Holds (HasSaved (plan_for task way course.start before).copies (spelling (closed task.moment course.start course.readings))) (view_of after.vault)
  pub parity : Holds (HasParityAfter (plan_for task way course.start before) course.readings (length course.readings) before.vault.files) (view_of after.vault)
  pub no_draft : HasNoDraft (view_of after.vault)
  pub named_is : left.named ≡ None
  pub counted_is : left.counted ≡ more_findings 0 (length (events_of course.start course.readings))
  pub prints : Prints (lines_of course.start.columns (events_of course.start course.readings) ++ sync_text synced pending) left.counted before.out after.out left.answer

-- A sync that broke off once the vault was touched: a call of the vault failed, for the last window that it told. The stripes that it read ahead
-- are no more than one window has. It printed the lines of its events.
pub record SyncBreaks (task : Task) (way : SyncWay) (table : TableValue) (before after : World) (left : Left) (did : Did) : Type 0 where
  pub course : SyncCourse task way table true before after left did
  pub few : length course.ahead ≤ stripe_count (length course.start.columns) course.start.shape.block_size
  pub window : BreaksInWindow (plan_for task way course.start before) course.readings before.vault after.vault
  pub answer_is : left.answer ≡ answers.Broken runs.Vault
  pub named_is : left.named ≡ None
  pub counted_is : left.counted ≡ 0
  pub output_failed : Bool
  pub printed : Tells (lines_of course.start.columns (events_of course.start course.readings)) (between false before.out) (between output_failed after.out)

-- A sync that did not begin: only the folders were asked for their listings.
pub record SyncRefuses (task : Task) (way : SyncWay) (table : TableValue) (before after : World) (left : Left) (did : Did) : Type 0 where
  pub fault : SyncFault
  pub why : BeginsNot task.setup way table before.folders after.folders fault
  pub left_is : left ≡ record { answer = answer_of fault; named = named_of fault; counted = 0; told = [] }
  pub did_is : did ≡ reads_only
  pub others : after ≡ record before { folders = after.folders }

-- by its answer
abbrev pub SyncsBy : Answer → Task → SyncWay → TableValue → World → World → Left → Did → Type 0
SyncsBy answers.Clean task way table before after left did = SyncEnds task way table before after left did
SyncsBy answers.Found task way table before after left did = SyncEnds task way table before after left did
SyncsBy answers.OutputFailed task way table before after left did = SyncEnds task way table before after left did
SyncsBy (answers.Broken runs.Vault) task way table before after left did = SyncBreaks task way table before after left did
SyncsBy _ task way table before after left did = SyncRefuses task way table before after left did
