use Rattle.std.specs.Prelude.{get_or, take}
use Rattle.parity_writer.specs.LevelsValue.{no_level}
use Rattle.stripe_examiner.specs.Findings.{level_io_events}
use Rattle.repair_scope.specs.Plan.{seen}
use Rattle.stripe_examiner.proofs.TellingLemmas.{Tells, events_to}
use Rattle.stripe_examiner.proofs.telling.levels.tell_unread_levels.Given as goal

abbrev pub invariant-loop-r : goal.invariant-loop-r
invariant-loop-r g l =
    Tells g.W.Sink.view (λ b. (goal.Report-dyn g (b.vtable, b.value)).standing b.value) (λ b. (goal.Report-dyn g (b.vtable, b.value)).stands b.value) l.plan.table.now.columns
    (events_to (λ r. level_io_events (seen l.plan) l.stripe (get_or (take l.levels.count l.levels.levels) r no_level) r) l.r)
    l.counts l.fn.lines l.lines l.fn.reports.items l.reports.items
