use Rattle.stripe_examiner.specs.Judging.{flagged_event}
use Rattle.stripe_examiner.proofs.TellingLemmas.{Tells, events_to}
use Rattle.stripe_examiner.proofs.telling.levels.tell_wrong_levels.Given as goal

abbrev pub invariant-loop-r : goal.invariant-loop-r
invariant-loop-r g l =
    Tells g.W.Sink.view (λ b. (goal.Report-dyn g (b.vtable, b.value)).standing b.value) (λ b. (goal.Report-dyn g (b.vtable, b.value)).stands b.value) l.table.columns
    (events_to (flagged_event l.stripe l.flags) l.r)
    l.counts l.fn.lines l.lines l.fn.reports.items l.reports.items
