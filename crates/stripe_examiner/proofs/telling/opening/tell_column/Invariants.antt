use Rattle.stripe_examiner.specs.Findings.{record_events}
use Rattle.repair_scope.specs.Plan.{seen}
use Rattle.stripe_examiner.proofs.TellingLemmas.{Tells, events_to}
use Rattle.stripe_examiner.proofs.telling.opening.tell_column.Given as goal

abbrev pub invariant-loop-i : goal.invariant-loop-i
invariant-loop-i g l =
    Tells g.W.Sink.view (λ b. (goal.Report-dyn g (b.vtable, b.value)).standing b.value) (λ b. (goal.Report-dyn g (b.vtable, b.value)).stands b.value) l.plan.table.now.columns
    (events_to (record_events (seen l.plan) l.d) l.i)
    l.counts l.fn.lines l.lines l.fn.reports.items l.reports.items
