use Rattle.std.proofs.Common.{◌≡◌, List, length, map, take}
use Rattle.stripe_examiner.specs.Facts.{StripeFacts}
use Rattle.repair_scope.specs.Plan.{seen}
use Rattle.snap_fix.specs.Handed.{ShowsIn}
use Rattle.stripe_examiner.specs.Spare.{IsSpareFor, SpareView}
use Rattle.snap_fix.specs.Fixing.{fix_scene}
use Rattle.snap_fix.specs.FixRun.{MendsInto}
use Rattle.snap_fix.proofs.fixes.fix_into.Given as goal

abbrev pub invariant-loop-i : goal.invariant-loop-i
invariant-loop-i g l =
    record {
      mends : (all : List StripeFacts) (spare : SpareView)
          → ShowsIn all l.stretch l.shown → IsSpareFor l.stretch.plan.table.now.shape spare
          → MendsInto g.W.Sink.view (λ b. (goal.Report-dyn g (b.vtable, b.value)).standing b.value) (λ b. (goal.Report-dyn g (b.vtable, b.value)).stands b.value)
          (seen l.stretch.plan) (take l.i all)
          (fix_scene l.fn.progress.starts l.fn.progress.states l.fn.progress.written.items (map g.F.Folder.view l.fn.folders) (g.V.Vault.view l.fn.vault) spare l.fn.lines l.fn.reports.items)
          (fix_scene l.progress.starts l.progress.states l.progress.written.items (map g.F.Folder.view l.folders) (g.V.Vault.view l.vault) spare l.lines l.reports.items) l.totals;
      block : length l.block ≡ length l.fn.block;
    }
