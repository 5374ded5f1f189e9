-- Events told, one after another.
use Rattle.std.proofs.Common.{◌≡◌, ℕ, ◌+◌, List, [], ◌∷◌, ◌++◌, ap, ◌∙◌}
use Rattle.std.specs.List.{range_with_len, flat_map}
use Rattle.std.proofs.lemmas.Grind.{flat_map-append}
use Rattle.std.proofs.lemmas.List.{append-nil}
use Rattle.disk_model.specs.Sink.{SinkView}
use Rattle.file_table.specs.Table.{Column}
use Rattle.snap_report.proofs.ToldLemmas.{told_then}
use Rattle.snap_report.specs.declared.events.Event.{Event}
use Rattle.snap_report.specs.declared.pages.Lines.{Lines}
use Rattle.snap_report.specs.Report.{ReportView}
use Rattle.snap_report.specs.Told.{Told}
use Rattle.stripe_findings.proofs.SlotLemmas.{range_more}
use Rattle.stripe_findings.proofs.TellingLemmas.{told_as}

-- the events of the first numbers, and of one more
pub events_more : (at : ℕ → List Event) (n : ℕ) → flat_map at (range_with_len 0 (n + 1)) ≡ flat_map at (range_with_len 0 n) ++ at n
events_more at n =
    ap (λ (ns : List ℕ). flat_map at ns) (range_more n)
    ∙ flat_map-append at (range_with_len 0 n) (n ∷ [])
    ∙ ap (λ (events : List Event). flat_map at (range_with_len 0 n) ++ events) (append-nil (at n))

module _ {W R : Type 0} (view : W → SinkView) (standing : R → ReportView) (stands : R → List Event → Type 0) where
  -- those of one number more
  pub told_more : (columns : List Column) (at : ℕ → List Event) (n : ℕ) (old mid new : Lines W) (olds mids news : List R)
      → Told view standing stands columns (flat_map at (range_with_len 0 n)) old mid olds mids
      → Told view standing stands columns (at n) mid new mids news
      → Told view standing stands columns (flat_map at (range_with_len 0 (n + 1))) old new olds news
  told_more columns at n old mid new olds mids news before here =
      told_as view standing stands columns _ _ old new olds news (events_more at n) (told_then view standing stands columns (flat_map at (range_with_len 0 n)) (at n) old mid new olds mids news before here)
