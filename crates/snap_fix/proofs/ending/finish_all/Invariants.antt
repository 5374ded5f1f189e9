use Rattle.std.proofs.Common.{map}
use Rattle.repair_scope.specs.Plan.{seen}
use Rattle.snap_fix.proofs.EndingAllLemmas.{AllToldTo}
use Rattle.snap_fix.proofs.ending.finish_all.Given as goal

abbrev pub invariant-loop-d : goal.invariant-loop-d
invariant-loop-d g l =
    AllToldTo (seen l.plan) l.fn.progress.starts l.fn.progress.states (map g.F.Folder.view l.fn.folders)
    g.W.Sink.view (λ b. (goal.Report-dyn g (b.vtable, b.value)).standing b.value) (λ b. (goal.Report-dyn g (b.vtable, b.value)).stands b.value)
    l.d l.starts l.states (map g.F.Folder.view l.folders) l.fn.lines l.lines l.fn.reports.items l.reports.items l.counts
