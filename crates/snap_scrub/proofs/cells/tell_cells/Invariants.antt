use Rattle.std.proofs.Common.{◌≤◌}
use Rattle.std.specs.List.{range_with_len, flat_map}
use Rattle.snap_report.specs.Told.{Told}
use Rattle.stripe_findings.specs.Findings.{events_at}
use Rattle.stripe_findings.specs.Reading.{reading_at}
use Rattle.snap_scrub.specs.Looking.{AreFound}
use Rattle.snap_scrub.proofs.cells.tell_cells.Given as goal

abbrev pub invariant-loop-d : goal.invariant-loop-d
invariant-loop-d g l =
    let events = flat_map (events_at l.table (reading_at l.stripes l.window l.i)) (range_with_len 0 l.d) in
    record {
      told : Told g.W.Sink.view (λ b. (goal.Report-dyn g (b.vtable, b.value)).standing b.value) (λ b. (goal.Report-dyn g (b.vtable, b.value)).stands b.value)
          l.table.columns events l.fn.lines l.lines l.fn.reports.items l.reports.items;
      found : AreFound events l.found;
      few : l.found.count ≤ l.d;
    }
