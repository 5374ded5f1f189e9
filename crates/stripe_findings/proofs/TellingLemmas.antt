-- Events told.
use Rattle.std.proofs.Common.{◌≡◌, List, sym, subst}
use Rattle.disk_model.specs.Sink.{SinkView}
use Rattle.file_table.specs.Table.{Column}
use Rattle.snap_report.specs.declared.events.Event.{Event}
use Rattle.snap_report.specs.declared.pages.Lines.{Lines}
use Rattle.snap_report.specs.Report.{ReportView}
use Rattle.snap_report.specs.Told.{Told}

module _ {W R : Type 0} (view : W → SinkView) (standing : R → ReportView) (stands : R → List Event → Type 0) where
  -- the same events
  pub told_as : (columns : List Column) (events same : List Event) (old new : Lines W) (olds news : List R) → events ≡ same
      → Told view standing stands columns same old new olds news → Told view standing stands columns events old new olds news
  told_as columns events same old new olds news is told = subst (λ (es : List Event). Told view standing stands columns es old new olds news) (sym is) told
