use Rattle.std.proofs.Common.{◌≡◌, length, take}
use Rattle.snap_scrub.specs.Looking.{LooksInto, scene}
use Rattle.snap_scrub.specs.Room.{KeepsCheck}
use Rattle.snap_scrub.proofs.windows.look_into.Given as goal

abbrev pub invariant-loop-i : goal.invariant-loop-i
invariant-loop-i g l =
    record {
      looks : LooksInto g.W.Sink.view (λ b. (goal.Report-dyn g (b.vtable, b.value)).standing b.value) (λ b. (goal.Report-dyn g (b.vtable, b.value)).stands b.value)
          l.batch.table.now l.batch.stripes.now l.batch.window.now l.i (take l.i l.verdicts) l.findings
          (scene (g.V.Vault.view l.fn.vault) l.fn.lines l.fn.reports.items) (scene (g.V.Vault.view l.vault) l.lines l.reports.items);
      check : KeepsCheck l.batch.table.now l.fn.check l.check;
      many : length l.verdicts ≡ length l.fn.verdicts;
      levels : (g.V.Vault.view l.vault).levels ≡ l.batch.table.now.shape.levels;
    }
