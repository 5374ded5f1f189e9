use Rattle.repair_scope.specs.Plan.{seen}
use Rattle.snap_fix.proofs.EndingColumnLemmas.{ToldTo}
use Rattle.snap_fix.proofs.ending.end_column.Given as goal

abbrev pub invariant-loop-i : goal.invariant-loop-i
invariant-loop-i g l =
    ToldTo (seen l.plan) l.d l.fn.starts l.fn.states (g.F.Folder.view l.fn.folder)
    g.W.Sink.view (λ b. (goal.Report-dyn g (b.vtable, b.value)).standing b.value) (λ b. (goal.Report-dyn g (b.vtable, b.value)).stands b.value)
    l.i l.starts l.states (g.F.Folder.view l.folder) l.fn.lines l.lines l.fn.reports.items l.reports.items l.counts
