use Rattle.std.proofs.Common.{◌≡◌, ◌-◌, length, map}
use Rattle.stripe_examiner.specs.Looking.{scene}
use Rattle.snap_fix.proofs.CheckWindowLemmas.{IsChecking}
use Rattle.snap_fix.proofs.checking.check_stripes.Given as goal

abbrev pub invariant-loop-done : goal.invariant-loop-done
invariant-loop-done g l =
    record {
      under : IsChecking g.W.Sink.view (λ b. (goal.Report-dyn g (b.vtable, b.value)).standing b.value) (λ b. (goal.Report-dyn g (b.vtable, b.value)).stands b.value)
          l.task.table.now l.fn.work l.work l.far l.done l.counts (map g.F.Folder.view l.fn.folders) (map g.F.Folder.view l.folders)
          (scene (g.V.Vault.view l.fn.vault) (g.P.Spare.holding l.fn.spare) l.fn.lines l.fn.reports.items) (scene (g.V.Vault.view l.vault) (g.P.Spare.holding l.spare) l.lines l.reports.items);
      folders : length l.folders ≡ length l.task.table.now.columns;
      levels : (g.V.Vault.view l.vault).levels ≡ l.task.table.now.shape.levels;
    }

abbrev pub decreases-loop-done : goal.decreases-loop-done
decreases-loop-done g l = length l.fn.work.stripes.items - l.done
