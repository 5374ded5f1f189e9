use Rattle.std.proofs.Common.{◌≡◌, ◌-◌, length, map}
use Rattle.snap_scrub.specs.Looking.{scene}
use Rattle.snap_scrub.specs.Windows.{KeepsWork}
use Rattle.snap_scrub.proofs.PassingLemmas.{IsUnderway}
use Rattle.snap_scrub.proofs.passing.look_over.Given as goal

abbrev pub invariant-loop-done : goal.invariant-loop-done
invariant-loop-done g l =
    record {
      under : IsUnderway g.W.Sink.view (λ b. (goal.Report-dyn g (b.vtable, b.value)).standing b.value) (λ b. (goal.Report-dyn g (b.vtable, b.value)).stands b.value)
          l.table l.work l.done l.findings (map g.F.Folder.view l.fn.folders) (map g.F.Folder.view l.folders)
          (scene (g.V.Vault.view l.fn.vault) l.fn.lines l.fn.reports.items) (scene (g.V.Vault.view l.vault) l.lines l.reports.items);
      kept : KeepsWork l.table l.fn.work l.work;
      folders : length l.folders ≡ length l.table.columns;
      levels : (g.V.Vault.view l.vault).levels ≡ l.table.shape.levels;
    }

abbrev pub decreases-loop-done : goal.decreases-loop-done
decreases-loop-done g l = length l.fn.work.stripes.items - l.done
