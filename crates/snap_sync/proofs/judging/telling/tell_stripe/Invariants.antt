use Rattle.std.proofs.Common.{◌≡◌, ◌≤◌, length}
use Rattle.snap_report.specs.Told.{Told}
use Rattle.stripe_findings.specs.Reading.{reading_at}
use Rattle.stripe_findings.proofs.FindingLemmas.{events_to}
use Rattle.snap_sync.proofs.judging.telling.tell_stripe.Given as goal

abbrev pub invariant-loop-d : goal.invariant-loop-d
invariant-loop-d g l =
    let events = events_to l.table (reading_at l.stripes l.window l.i) l.d in
    record {
      told : Told g.W.Sink.view (λ b. (goal.Report-dyn g (b.vtable, b.value)).standing b.value) (λ b. (goal.Report-dyn g (b.vtable, b.value)).stands b.value)
          l.table.columns events l.fn.lines l.lines l.fn.reports.items l.reports.items;
      count : l.count ≡ length events;
      few : l.count ≤ l.d;
    }
