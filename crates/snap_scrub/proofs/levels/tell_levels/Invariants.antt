use Rattle.std.proofs.Common.{◌≤◌}
use Rattle.parity_writer.specs.Parity.{Row}
use Rattle.snap_report.specs.Told.{Told}
use Rattle.parity_writer.specs.Summing.{HoldSums}
use Rattle.snap_scrub.specs.Levels.{kept_events}
use Rattle.snap_scrub.specs.Looking.{AreFound}
use Rattle.snap_scrub.proofs.levels.tell_levels.Given as goal

abbrev pub invariant-loop-r : goal.invariant-loop-r
invariant-loop-r g l =
    record {
      told : (row : Row) → HoldSums l.levels.block_size row l.table.shape.levels l.sums →
          Told g.W.Sink.view (λ b. (goal.Report-dyn g (b.vtable, b.value)).standing b.value) (λ b. (goal.Report-dyn g (b.vtable, b.value)).stands b.value)
          l.table.columns (kept_events l.levels.block_size l.stripe row l.levels l.r) l.fn.lines l.lines l.fn.reports.items l.reports.items;
      found : (row : Row) → HoldSums l.levels.block_size row l.table.shape.levels l.sums → AreFound (kept_events l.levels.block_size l.stripe row l.levels l.r) l.found;
      few : l.found.count ≤ l.r;
    }
