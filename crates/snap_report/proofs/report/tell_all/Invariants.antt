use Rattle.std.proofs.Common.{take}
use Rattle.snap_report.specs.Told.{Told}
use Rattle.snap_report.proofs.report.tell_all.Given as goal

abbrev pub invariant-loop-event : goal.invariant-loop-event
invariant-loop-event g l =
    Told g.W.Sink.view (λ b. (goal.Report-dyn g (b.vtable, b.value)).standing b.value) (λ b. (goal.Report-dyn g (b.vtable, b.value)).stands b.value)
    l.table.columns (take l.event-index l.events) l.fn.lines l.lines l.fn.reports.items l.reports.items
