use Rattle.std.proofs.Common.{◌≡◌, ◌≤◌, length}
use Rattle.disk_model.specs.Vault.{SomeCalls, DraftsStay}
use Rattle.stripe_examiner.specs.Facts.{StripeFacts}
use Rattle.repair_scope.specs.Plan.{seen}
use Rattle.snap_fix.specs.Repairing.{ShowsLevels, levels_outside}
use Rattle.snap_fix.proofs.MendedLevelLemmas.{LevelsSoFar}
use Rattle.snap_fix.proofs.FlagLemmas.{FlagsSoFar}
use Rattle.snap_fix.proofs.repairing.levels.mend_levels.Given as goal

abbrev pub invariant-loop-r : goal.invariant-loop-r
invariant-loop-r g l =
    record {
      block : length l.block ≡ length l.fn.block;
      calls : SomeCalls (g.V.Vault.view l.fn.vault) (g.V.Vault.view l.vault);
      drafts : DraftsStay (g.V.Vault.view l.fn.vault) (g.V.Vault.view l.vault);
      few : l.count ≤ l.r;
      long : length l.written ≡ length l.fn.written;
      flags : (facts : StripeFacts) → ShowsLevels facts l.one.stripe l.one.slot l.one.window.now l.one.own.now.levels l.one.own.now.known
          → FlagsSoFar (seen l.plan) facts l.r l.fn.written l.written;
      end : l.r-end ≡ l.plan.table.now.shape.levels;
      so_far : (facts : StripeFacts) → ShowsLevels facts l.one.stripe l.one.slot l.one.window.now l.one.own.now.levels l.one.own.now.known
          → LevelsSoFar g.W.Sink.view (λ b. (goal.Report-dyn g (b.vtable, b.value)).standing b.value) (λ b. (goal.Report-dyn g (b.vtable, b.value)).stands b.value)
          (seen l.plan) facts l.r l.count
          (levels_outside (g.V.Vault.view l.fn.vault) l.fn.lines l.fn.reports.items) (levels_outside (g.V.Vault.view l.vault) l.lines l.reports.items);
    }
