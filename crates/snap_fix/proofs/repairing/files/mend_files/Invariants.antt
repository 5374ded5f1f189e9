use Rattle.std.proofs.Common.{◌≡◌, length, map}
use Rattle.repair_scope.specs.Plan.{seen}
use Rattle.snap_fix.specs.Repairing.{outside}
use Rattle.snap_fix.proofs.RepairFilesLemmas.{FilesSoFar}
use Rattle.snap_fix.proofs.repairing.files.mend_files.Given as goal

abbrev pub invariant-loop-d : goal.invariant-loop-d
invariant-loop-d g l =
    record {
      end : l.d-end ≡ length l.plan.table.now.columns;
      so_far : FilesSoFar g.W.Sink.view (λ b. (goal.Report-dyn g (b.vtable, b.value)).standing b.value) (λ b. (goal.Report-dyn g (b.vtable, b.value)).stands b.value)
          (seen l.plan) l.one.stripe l.one.slot l.one.window.now l.one.own.now.marks.items l.one.own.now.known
          (outside l.fn.starts l.fn.states (map g.F.Folder.view l.fn.folders) l.fn.lines l.fn.reports.items) l.d
          (outside l.starts l.states (map g.F.Folder.view l.folders) l.lines l.reports.items) l.repaired;
    }
