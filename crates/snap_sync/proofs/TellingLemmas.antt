-- Events told, cell after cell and stripe after stripe.
use Rattle.std.proofs.Common.{ℕ, ◌+◌, List}
use Rattle.disk_model.specs.Sink.{SinkView}
use Rattle.file_table.specs.Table.{TableValue}
use Rattle.snap_report.proofs.ToldLemmas.{told_then}
use Rattle.snap_report.specs.declared.events.Event.{Event}
use Rattle.snap_report.specs.declared.pages.Lines.{Lines}
use Rattle.snap_report.specs.Report.{ReportView}
use Rattle.snap_report.specs.Told.{Told}
use Rattle.stripe_reader.specs.WindowValue.{WindowValue}
use Rattle.stripe_findings.specs.Findings.{events_at, stripe_events, events_of}
use Rattle.stripe_findings.specs.Reading.{StripeReading, reading_at}
use Rattle.stripe_findings.proofs.SlotLemmas.{readings_to}
use Rattle.stripe_findings.proofs.FindingLemmas.{events_to, events_to-more, events_of-more}
use Rattle.stripe_findings.proofs.TellingLemmas.{told_as}

module _ {W R : Type 0} (view : W → SinkView) (standing : R → ReportView) (stands : R → List Event → Type 0) where
  -- one cell more of a stripe
  pub told_cell_more : (table : TableValue) (reading : StripeReading) (d : ℕ) (old mid new : Lines W) (olds mids news : List R)
      → Told view standing stands table.columns (events_to table reading d) old mid olds mids
      → Told view standing stands table.columns (events_at table reading d) mid new mids news
      → Told view standing stands table.columns (events_to table reading (d + 1)) old new olds news
  told_cell_more table reading d old mid new olds mids news before here =
      told_as view standing stands table.columns _ _ old new olds news (events_to-more table reading d)
      (told_then view standing stands table.columns (events_to table reading d) (events_at table reading d) old mid new olds mids news before here)

  -- one stripe more of a window
  pub told_stripe_more : (table : TableValue) (stripes : List ℕ) (window : WindowValue) (i : ℕ) (old mid new : Lines W) (olds mids news : List R)
      → Told view standing stands table.columns (events_of table (readings_to stripes window i)) old mid olds mids
      → Told view standing stands table.columns (stripe_events table (reading_at stripes window i)) mid new mids news
      → Told view standing stands table.columns (events_of table (readings_to stripes window (i + 1))) old new olds news
  told_stripe_more table stripes window i old mid new olds mids news before here =
      told_as view standing stands table.columns _ _ old new olds news (events_of-more table stripes window i)
      (told_then view standing stands table.columns (events_of table (readings_to stripes window i)) (stripe_events table (reading_at stripes window i)) old mid new olds mids news before here)
