use Rattle.stripe_examiner.specs.Findings.{is_lost_by, lost_events}
use Rattle.stripe_examiner.specs.Marks.{mark_in}
use Rattle.repair_scope.specs.Plan.{seen}
use Rattle.stripe_examiner.proofs.TellingLemmas.{Tells, events_to}
use Rattle.stripe_examiner.proofs.telling.cells.tell_lost.Given as goal

abbrev pub invariant-loop-d : goal.invariant-loop-d
invariant-loop-d g l =
    Tells g.W.Sink.view (λ b. (goal.Report-dyn g (b.vtable, b.value)).standing b.value) (λ b. (goal.Report-dyn g (b.vtable, b.value)).stands b.value) l.plan.table.now.columns
    (events_to (λ d. lost_events (seen l.plan) l.stripe (is_lost_by (seen l.plan) l.stripe (mark_in l.marks d) l.known d) d) l.d)
    l.counts l.fn.lines l.lines l.fn.reports.items l.reports.items
