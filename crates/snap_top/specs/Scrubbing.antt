-- What the scrub of a run does, from the table that it begins with.
use Rattle.std.specs.Prelude.{◌≡◌, ◌≢◌, ◌+◌, List, [], ◌++◌, length, All, Bool, true, false, None, sum_by}
use Rattle.content_file.specs.Save.{HasSaved, HasNoDraft}
use Rattle.content_file.specs.Spelling.{spelling}
use Rattle.disk_model.specs.Cause.{RoseBy}
use Rattle.disk_model.specs.Vault.{Holds, copies_of}
use Rattle.file_table.specs.Table.{TableValue}
use Rattle.array_setup.specs.declared.ways.ScrubWay.{ScrubWay}
use Rattle.snap_report.specs.EndLines.{scrub_text}
use Rattle.snap_report.specs.EventLines.{lines_of}
use Rattle.snap_report.specs.Telling.{Tells, between}
use Rattle.snap_report.specs.declared.answer.Answer.{Answer}
use Rattle.snap_report.specs.declared.answer.Answer.TheVariants as answers
use Rattle.snap_report.specs.declared.answer.RunFault.TheVariants as runs
use Rattle.snap_scrub.specs.Course.{TouchesVault}
use Rattle.snap_scrub.specs.Findings.{events_of}
use Rattle.snap_scrub.specs.Marks.{at_most, scrubbed}
use Rattle.snap_scrub.specs.Plan.{plan_of}
use Rattle.snap_scrub.specs.Reading.{HasLevels, ScrubReading, cells_of, unread_levels}
use Rattle.stripe_findings.specs.Reading.{AreRead, stripes_of}
use Rattle.snap_top.specs.Scrub.{ScrubRun}
use Rattle.snap_top.specs.Task.{Task, Left, Prints}
use Rattle.snap_top.specs.Did.{Did, reads_only, scrubs}
use Rattle.snap_top.specs.Views.{World, view_of}

-- the scrub as a whole, by what was read
abbrev pub scrub_of : ScrubWay → Task → TableValue → World → World → List ScrubReading → ScrubRun
scrub_of way task table before after readings = record {
  way = way;
  setup = task.setup;
  loaded = table;
  now = task.moment;
  copies = copies_of (view_of before.vault);
  readings = readings;
  folders = before.folders;
  ended = after.folders;
}

-- All stripes of the plan were read: their cells, and the levels of those whose cells are all right. What was found in them was told. Then the
-- table with their marks was saved, up to the first call that failed. Parity was never written.
pub record ScrubCourse (way : ScrubWay) (task : Task) (table : TableValue) (failed : Bool) (before after : World) (left : Left) (did : Did)
    : Type 0 where
  pub readings : List ScrubReading
  pub did_is : did ≡ scrubs failed (scrub_of way task table before after readings)
  pub stripes : stripes_of (cells_of readings) ≡ plan_of table way task.moment
  pub cells : AreRead table (cells_of readings) before.folders after.folders
  pub due : All (HasLevels table) readings
  pub vault : TouchesVault table (scrubbed task.moment table readings) readings failed
      (view_of before.vault) (view_of after.vault)
  pub told_is : left.told ≡ events_of table readings

-- A scrub that ended: where a stripe was read, every copy spells the table with the marks. It printed the lines of what was found, and its
-- last line.
pub record ScrubEnds (way : ScrubWay) (task : Task) (table : TableValue) (before after : World) (left : Left) (did : Did) : Type 0 where
  pub course : ScrubCourse way task table false before after left did
  pub saved : course.readings ≢ []
      → Holds (HasSaved (copies_of (view_of before.vault)) (spelling (scrubbed task.moment table course.readings))) (view_of after.vault)
  pub no_draft : course.readings ≢ [] → HasNoDraft (view_of after.vault)
  pub named_is : left.named ≡ None
  pub counted_is : left.counted ≡ at_most (length (events_of table course.readings))
  pub prints : Prints (lines_of table.columns (events_of table course.readings) ++ scrub_text (length course.readings) left.counted) left.counted
      before.out after.out left.answer

-- A scrub that broke off: it read and told all, and a call that saves the table failed. It printed the lines of what was found.
pub record ScrubBreaks (way : ScrubWay) (task : Task) (table : TableValue) (before after : World) (left : Left) (did : Did) : Type 0 where
  pub course : ScrubCourse way task table true before after left did
  pub rose : RoseBy (sum_by unread_levels course.readings + 1) before.vault.faults after.vault.faults
  pub answer_is : left.answer ≡ answers.Broken runs.Vault
  pub named_is : left.named ≡ None
  pub counted_is : left.counted ≡ 0
  pub output_failed : Bool
  pub printed : Tells (lines_of table.columns (events_of table course.readings))
      (between false before.out) (between output_failed after.out)

-- A scrub that did not begin: memory ran out, and nothing was touched.
pub record ScrubRefuses (before after : World) (left : Left) (did : Did) : Type 0 where
  pub left_is : left ≡ record { answer = answers.Broken runs.Memory; named = None; counted = 0; told = [] }
  pub did_is : did ≡ reads_only
  pub untouched : after ≡ before

-- by its answer: a folder that fails is a finding
abbrev pub ScrubsBy : Answer → ScrubWay → Task → TableValue → World → World → Left → Did → Type 0
ScrubsBy answers.Clean way task table before after left did = ScrubEnds way task table before after left did
ScrubsBy answers.Found way task table before after left did = ScrubEnds way task table before after left did
ScrubsBy answers.OutputFailed way task table before after left did = ScrubEnds way task table before after left did
ScrubsBy (answers.Broken runs.Vault) way task table before after left did = ScrubBreaks way task table before after left did
ScrubsBy (answers.Broken runs.Memory) way task table before after left did = ScrubRefuses before after left did
ScrubsBy _ way task table before after left did = ⊥
