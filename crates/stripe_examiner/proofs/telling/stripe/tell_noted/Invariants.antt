use Rattle.std.specs.Option.{option_to_list}
use Rattle.stripe_examiner.specs.Shown.{found_at}
use Rattle.stripe_examiner.proofs.TellingLemmas.{Tells, events_to}
use Rattle.stripe_examiner.proofs.telling.stripe.tell_noted.Given as goal

-- what was noted of the cells so far is told
abbrev pub invariant-loop-d : goal.invariant-loop-d
invariant-loop-d g l =
    Tells g.W.Sink.view (λ b. (goal.Report-dyn g (b.vtable, b.value)).standing b.value) (λ b. (goal.Report-dyn g (b.vtable, b.value)).stands b.value) l.table.columns
    (events_to (λ d. option_to_list (found_at l.found d)) l.d)
    l.counts l.fn.lines l.lines l.fn.reports.items l.reports.items
