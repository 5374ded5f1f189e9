use Rattle.stripe_examiner.specs.Findings.{column_events}
use Rattle.repair_scope.specs.Plan.{seen}
use Rattle.stripe_examiner.proofs.TellingLemmas.{Tells, events_to}
use Rattle.stripe_examiner.proofs.telling.opening.tell_opening.Given as goal

abbrev pub invariant-loop-d : goal.invariant-loop-d
invariant-loop-d g l =
    Tells g.W.Sink.view (λ b. (goal.Report-dyn g (b.vtable, b.value)).standing b.value) (λ b. (goal.Report-dyn g (b.vtable, b.value)).stands b.value) l.plan.table.now.columns
    (events_to (column_events (seen l.plan)) l.d)
    l.counts l.fn.lines l.lines l.fn.reports.items l.reports.items
