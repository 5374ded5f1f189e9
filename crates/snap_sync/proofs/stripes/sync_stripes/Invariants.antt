use Rattle.std.proofs.Common.{◌-◌, map}
use Rattle.snap_sync.specs.Course.{outside}
use Rattle.stripe_reader.specs.Fetched.{IsUnhashedWindow}
use Rattle.stripe_reader.specs.Held.{HoldsCells}
use Rattle.snap_sync.specs.Run.{near_hashed, plan_for, stripes_near, HasSynced}
use Rattle.snap_sync.proofs.stripes.sync_stripes.Given as goal

abbrev pub invariant-loop-progress : goal.invariant-loop-progress
invariant-loop-progress g l = record {
  synced : HasSynced g.W.Sink.view (λ b. (goal.Report-dyn g (b.vtable, b.value)).standing b.value) (λ b. (goal.Report-dyn g (b.vtable, b.value)).stands b.value)
      (plan_for l.fn.work l.fn.pace (g.V.Vault.view l.fn.vault)) l.progress (near_hashed l.work)
      (outside (map g.F.Folder.view l.fn.folders) (g.V.Vault.view l.fn.vault) l.fn.lines l.fn.reports.items)
      (outside (map g.F.Folder.view l.folders) (g.V.Vault.view l.vault) l.lines l.reports.items);
  unhashed : IsUnhashedWindow l.work.room.near;
  cells : HoldsCells l.work.table (stripes_near l.work l.progress.done) l.work.room.near;
}

abbrev pub decreases-loop-progress : goal.decreases-loop-progress
decreases-loop-progress g l = l.all - l.progress.done
