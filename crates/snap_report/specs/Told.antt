-- What a run told: lines and reports together.
use Rattle.std.specs.Prelude.{◌≡◌, List, ◌++◌}
use Rattle.disk_model.specs.Sink.{SinkView}
use Rattle.file_table.specs.Table.{Column}
use Rattle.snap_report.specs.declared.events.Event.{Event}
use Rattle.snap_report.specs.declared.pages.Lines.{Lines}
use Rattle.snap_report.specs.EventLines.{lines_of}
use Rattle.snap_report.specs.Report.{ReportView, AllGiven}
use Rattle.snap_report.specs.State.{state_of, Puts}
use Rattle.snap_report.specs.Telling.{Settled}

-- These events were told in order: their lines, a prefix of which is written where a write failed, and themselves, with these lines, to the reports.
pub record Told {W R : Type 0} (view : W → SinkView) (standing : R → ReportView) (stands : R → List Event → Type 0) (columns : List Column) (events : List Event) (old new : Lines W) (olds news : List R) : Type 0 where
  pub puts : Puts view (lines_of columns events) old new
  pub settled : Settled (state_of view old) → Settled (state_of view new)
  pub given : AllGiven standing stands (lines_of columns events) events olds news

-- Of a run that broke off: the first of these events were told.
pub record ToldPart {W R : Type 0} (view : W → SinkView) (standing : R → ReportView) (stands : R → List Event → Type 0) (columns : List Column) (events : List Event) (old new : Lines W) (olds news : List R) : Type 0 where
  pub first : List Event
  pub rest : List Event
  pub whole : first ++ rest ≡ events
  pub told : Told view standing stands columns first old new olds news
