-- A scrub as a whole.
use Rattle.std.proofs.Common.{◌≡◌, ℕ, List, length, Bool, sym, ap₂, ◌∙◌, subst}
use Rattle.std.proofs.lemmas.List.{length-map}
use Rattle.disk_model.specs.Folder.{FolderView}
use Rattle.disk_model.specs.Sink.{SinkView}
use Rattle.disk_model.specs.Vault.{VaultView}
use Rattle.file_table.specs.Table.{TableValue}
use Rattle.array_setup.specs.declared.ways.ScrubWay.{ScrubWay}
use Rattle.snap_report.proofs.PutsLemmas.{puts_then}
use Rattle.snap_report.specs.EventLines.{lines_of}
use Rattle.snap_report.specs.Report.{ReportView}
use Rattle.snap_report.specs.State.{Puts}
use Rattle.snap_report.specs.declared.events.Event.{Event}
use Rattle.snap_report.specs.declared.pages.Lines.{Lines}
use Rattle.stripe_findings.specs.Reading.{StripeReading, stripes_of}
use Rattle.snap_scrub.specs.declared.verdict.Verdict.{Verdict}
use Rattle.snap_scrub.specs.declared.scrubbing.ScrubEnd.{ScrubEnd}
use Rattle.snap_scrub.specs.Course.{Course, Outside, Scrubs, TouchesVault, outside}
use Rattle.snap_scrub.specs.Findings.{events_of}
use Rattle.snap_scrub.specs.Looking.{LooksOver, Scene}
use Rattle.snap_scrub.specs.Marks.{scrubbed, with_marks}
use Rattle.snap_scrub.specs.Plan.{plan_of}
use Rattle.snap_scrub.specs.Reading.{ScrubReading, cells_of}

-- the same end
pub scrubs_as : {W R : Type 0} (view : W → SinkView) (standing : R → ReportView) (stands : R → List Event → Type 0) (table : TableValue) (way : ScrubWay) (now : ℕ) (old new : Outside W R) (end other : ScrubEnd) → end ≡ other
    → Scrubs view standing stands table way now old new other → Scrubs view standing stands table way now old new end
scrubs_as view standing stands table way now old new end other same scrubs = subst (λ (it : ScrubEnd). Scrubs view standing stands table way now old new it) (sym same) scrubs

pub length_readings : (readings : List ScrubReading) → length (stripes_of (cells_of readings)) ≡ length readings
length_readings readings = length-map (cells_of readings) (λ (it : StripeReading). it.stripe) ∙ length-map readings (λ (it : ScrubReading). it.cells)

module _ {W R : Type 0} (view : W → SinkView) (standing : R → ReportView) (stands : R → List Event → Type 0) (table : TableValue) (stripes : List ℕ) (verdicts : List Verdict) (findings : ℕ) (olds news : List FolderView) (old mid : Scene W R)
    (over : LooksOver view standing stands table stripes verdicts findings olds news old mid) where
  -- the table with its marks is the scrubbed one
  pub marked_is : (now : ℕ) (after : TableValue) (marked_stripes : List ℕ) (marked_verdicts : List Verdict) → after ≡ with_marks now table marked_stripes marked_verdicts → marked_stripes ≡ stripes → marked_verdicts ≡ verdicts → after ≡ scrubbed now table over.readings
  marked_is now after marked_stripes marked_verdicts is stripes_are verdicts_are =
      is ∙ ap₂ (λ (ss : List ℕ) (vs : List Verdict). with_marks now table ss vs) (stripes_are ∙ sym over.numbers) (verdicts_are ∙ over.verdicts_are)

  pub course_of : (way : ScrubWay) (now : ℕ) (failed : Bool) (last_line : List ℕ) (after : TableValue) (vault : VaultView) (lines : Lines W) → stripes ≡ plan_of table way now → after ≡ scrubbed now table over.readings
      → TouchesVault table after over.readings failed old.vault vault → Puts view last_line mid.lines lines
      → Course view standing stands table way now over.readings failed last_line (outside olds old.vault old.lines old.reports) (outside news vault lines mid.reports)
  course_of way now failed last_line after vault lines planned after_is touches last = record {
    stripes = over.numbers ∙ planned;
    cells = over.read;
    due = over.looks.due;
    vault = subst (λ (it : TableValue). TouchesVault table it over.readings failed old.vault vault) after_is touches;
    given = over.looks.told.given;
    puts = puts_then view (lines_of table.columns (events_of table over.readings)) last_line old.lines mid.lines lines over.looks.told.puts last;
  }
