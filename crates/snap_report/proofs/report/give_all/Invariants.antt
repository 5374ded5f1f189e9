use Rattle.std.proofs.Common.{◌≡◌, ℕ, ◌<◌, ◌≤◌, length, get_or, [], ◌∷◌}
use Rattle.snap_report.specs.EventLines.{event_line}
use Rattle.snap_report.specs.Report.{Given}
use Rattle.snap_report.proofs.report.give_all.Given as goal

abbrev pub invariant-loop-report : goal.invariant-loop-report
invariant-loop-report g l = record {
  places : length l.report-items ≡ length l.fn.reports.items;
  given : (i : ℕ) (none : _) → i < l.report-index → Given (λ b. (goal.Report-dyn g (b.vtable, b.value)).standing b.value) (λ b. (goal.Report-dyn g (b.vtable, b.value)).stands b.value) (event_line l.table.columns l.event) (l.event ∷ []) (get_or l.fn.reports.items i none) (get_or l.report-items i none);
  left : (i : ℕ) (none : _) → l.report-index ≤ i → get_or l.report-items i none ≡ get_or l.fn.reports.items i none;
}
