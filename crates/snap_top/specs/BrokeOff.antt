-- A run that broke off told and printed a front of what one does that did not, and a run that ended early printed nothing.
use Rattle.std.specs.Prelude.{◌≡◌, ◌≢◌, ℕ, ◌<◌, List, ◌++◌, length, Bool, true, false, Option}
use Rattle.content_file.specs.Load.{HasFailed}
use Rattle.disk_model.specs.Cause.{Rose, RoseBy}
use Rattle.file_table.specs.Table.{TableValue}
use Rattle.array_setup.specs.Setup.{SetupValue}
use Rattle.snap_config.specs.declared.options.Command.TheVariants as commands
use Rattle.array_setup.specs.declared.ways.ScrubWay.{ScrubWay}
use Rattle.array_setup.specs.declared.ways.Selection.{Selection}
use Rattle.array_setup.specs.declared.ways.SyncWay.{SyncWay}
use Rattle.snap_fix.specs.Fixing.{facts_of}
use Rattle.snap_report.specs.Telling.{Tells, between}
use Rattle.snap_report.specs.declared.answer.Answer.TheVariants as answers
use Rattle.snap_report.specs.declared.answer.RunFault.{RunFault}
use Rattle.snap_report.specs.declared.answer.RunFault.TheVariants as runs
use Rattle.snap_report.specs.declared.events.Event.{Event}
use Rattle.snap_sync.specs.Part.{NoneRose}
use Rattle.stripe_examiner.specs.Looking.{unread_cells, unread_in}
use Rattle.stripe_reader.specs.Columns.{folder_at}
use Rattle.snap_top.specs.Alike.{seen_by}
use Rattle.snap_top.specs.Check.{CheckRun}
use Rattle.snap_top.specs.Fixing.{FixBroke, fix_of}
use Rattle.snap_top.specs.LeftAlike.{HasPrinted}
use Rattle.snap_top.specs.Run.{IsAnswered, IsRefused, IsRun}
use Rattle.snap_top.specs.Entry.{Entry, Exit}
use Rattle.snap_top.specs.Scrubbing.{ScrubBreaks}
use Rattle.snap_top.specs.Syncing.{SyncBreaks}
use Rattle.snap_top.specs.Task.{Left}
use Rattle.snap_top.specs.Did.{reads_only}
use Rattle.snap_top.specs.Views.{view_of, world_of}
use Rattle.snap_top.specs.declared.end.Ending.{Ending}
use Rattle.snap_top.specs.declared.end.Ending.TheVariants.{Answered}
use Rattle.snap_top.specs.declared.end.Refusal.{Refusal}

-- A run broke off in its command: a call failed there, or memory ran out.
pub record BrokeOff (before : Entry) (exit : Exit) : Type 0 where
  pub setup : SetupValue
  pub fault : RunFault
  pub named : Option TableValue
  pub told : List Event
  pub ran : IsRun before exit setup (Answered (answers.Broken fault) named) told

-- what such a run left to be said
abbrev pub left_of : {before : Entry} {exit : Exit} → BrokeOff before exit → Left
left_of broke = record { answer = answers.Broken broke.fault; named = broke.named; counted = broke.ran.goes.0; told = broke.told }

-- and what it did behind the reading of the copies
abbrev pub answered : {before : Entry} {exit : Exit} → (broke : BrokeOff before exit)
    → IsAnswered broke.ran.task broke.ran.given (world_of exit.after) (left_of broke) broke.ran.did
answered broke = broke.ran.goes.1

-- A fix broke off once the folders were listed.
pub record FixBrokeOff (before : Entry) (exit : Exit) : Type 0 where
  pub broke : BrokeOff before exit
  pub selection : Selection
  pub command_is : broke.ran.task.command ≡ commands.Fix selection
  pub fix : FixBroke broke.fault selection broke.ran.task (answered broke).table (answered broke).start (world_of exit.after)
      (left_of broke) broke.ran.did

-- what it has seen so far, said as of a check
abbrev pub seen_so_far : {before : Entry} {exit : Exit} → FixBrokeOff before exit → CheckRun
seen_so_far {before} {exit} off =
    let course = off.fix.course in
    seen_by (fix_of off.selection off.broke.ran.task (answered off.broke).table (answered off.broke).start (world_of exit.after) course.lists course.listed course.plan course.stripes course.readings)

-- No reading of a copy failed in it, and none of a cell or a level of the stripes that it looked at.
pub record ReadsRight {before : Entry} {exit : Exit} (off : FixBrokeOff before exit) : Type 0 where
  pub copies : (copy : ℕ) → ¬ (HasFailed (view_of off.broke.ran.given.vault) (view_of (answered off.broke).start.vault) copy)
  pub cells : (d : ℕ) → d < length off.fix.course.plan.table.columns → unread_cells d (facts_of off.fix.course.stripes) ≡ 0
  pub levels : unread_in off.fix.course.readings ≡ 0

-- A sync broke off once the vault was touched.
pub record SyncBrokeOff (before : Entry) (exit : Exit) : Type 0 where
  pub broke : BrokeOff before exit
  pub way : SyncWay
  pub command_is : broke.ran.task.command ≡ commands.Sync way
  pub sync : SyncBreaks broke.ran.task way (answered broke).table (answered broke).start (world_of exit.after) (left_of broke) broke.ran.did

-- a scrub likewise
pub record ScrubBrokeOff (before : Entry) (exit : Exit) : Type 0 where
  pub broke : BrokeOff before exit
  pub way : ScrubWay
  pub command_is : broke.ran.task.command ≡ commands.Scrub way
  pub scrub : ScrubBreaks way broke.ran.task (answered broke).table (answered broke).start (world_of exit.after) (left_of broke) broke.ran.did

-- the count of faults of no folder rose, and that of the vault by one at most
pub record RoseOnce (before : Entry) (exit : Exit) : Type 0 where
  pub folders : NoneRose before.opener.folders exit.after.folders
  pub vault : ¬ (RoseBy 2 before.opener.vault.faults exit.after.vault.faults)

-- of the folders only this one's count of faults rose, by one at most, and that of the vault did not
pub record FolderRoseOnce (disk : ℕ) (before : Entry) (exit : Exit) : Type 0 where
  pub others : (d : ℕ) → d < length before.opener.folders → d ≢ disk
      → ¬ (Rose (folder_at before.opener.folders d).faults (folder_at exit.after.folders d).faults)
  pub once : ¬ (RoseBy 2 (folder_at before.opener.folders disk).faults (folder_at exit.after.folders disk).faults)
  pub vault : ¬ (Rose before.opener.vault.faults exit.after.vault.faults)

-- No count of faults of a folder or of the vault rose but that of what failed, and that by one at most: so that call failed alone, and
-- no reading did. Where memory ran out, nothing is asked of the counts: nothing was told then.
abbrev pub RoseOnceBy : RunFault → Entry → Exit → Type 0
RoseOnceBy (runs.Folder disk) before exit = FolderRoseOnce disk before exit
RoseOnceBy runs.Vault before exit = RoseOnce before exit
RoseOnceBy runs.Memory before exit = Unit {0}

-- One run told a front of the events that another told, and its text is a front of the text of the other. Of each of the two texts a
-- front was written, if its output failed; of the other one this is shown by status 3.
pub record PrintsFront (told told_then : List Event) (before before_then : Entry) (exit exit_then : Exit) (status_then : ℕ) : Type 0 where
  pub more : List Event
  pub events : told_then ≡ told ++ more
  pub text : List ℕ
  pub rest : List ℕ
  pub failed : Bool
  pub printed : Tells text (between false before.out) (between failed exit.after.out)
  pub printed_then : HasPrinted (text ++ rest) before_then exit_then status_then

-- ---- runs that ended early

-- The command did not come to its end: nothing was loaded, or the content is another array's, or the command refused or broke off.
abbrev pub is_undone : Ending → Bool
is_undone (Answered answers.Clean named) = false
is_undone (Answered answers.Found named) = false
is_undone (Answered answers.OutputFailed named) = false
is_undone _ = true

-- A run was refused. Or its command did not come to its end, and did no more than to read.
pub data EndedEarly (before : Entry) (exit : Exit) : Type 0 where
  WasRefused : (why : Refusal) (told : List Event) → IsRefused before exit why told → EndedEarly before exit
  WasUndone : (setup : SetupValue) (ending : Ending) (told : List Event) (ran : IsRun before exit setup ending told)
      → is_undone ending ≡ true → ran.did ≡ reads_only → EndedEarly before exit
