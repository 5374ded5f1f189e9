use Rattle.std.proofs.Common.{◌-◌, ◌<◌, ◌≤◌, length, map, take}
use Rattle.snap_fix.specs.Fixing.{fix_scene}
use Rattle.snap_fix.specs.FixRun.{FixesStripes}
use Rattle.repair_scope.specs.Plan.{seen}
use Rattle.stripe_examiner.specs.Room.{IsRoomFor}
use Rattle.snap_fix.specs.Windows.{FillWindows}
use Rattle.snap_fix.proofs.fixes.fix_stripes.Given as goal

abbrev pub invariant-loop-done : goal.invariant-loop-done
invariant-loop-done g l =
    record {
      fixed : FixesStripes g.W.Sink.view (λ b. (goal.Report-dyn g (b.vtable, b.value)).standing b.value) (λ b. (goal.Report-dyn g (b.vtable, b.value)).stands b.value)
          (seen l.stretch.plan) (take l.done l.stretch.stripes.now)
          (fix_scene l.fn.space.progress.starts l.fn.space.progress.states l.fn.space.progress.written.items (map g.F.Folder.view l.fn.folders) (g.V.Vault.view l.fn.vault) (g.P.Spare.holding l.fn.spare) l.fn.lines l.fn.reports.items)
          (fix_scene l.space.progress.starts l.space.progress.states l.space.progress.written.items (map g.F.Folder.view l.folders) (g.V.Vault.view l.vault) (g.P.Spare.holding l.spare) l.lines l.reports.items) l.totals;
      within : l.done ≤ length l.stretch.stripes.now;
      fill : l.done < length l.stretch.stripes.now → FillWindows (seen l.stretch.plan) l.done;
      room : IsRoomFor l.stretch.plan.table.now l.space.room;
    }

abbrev pub decreases-loop-done : goal.decreases-loop-done
decreases-loop-done g l = length l.stretch.stripes.now - l.done
