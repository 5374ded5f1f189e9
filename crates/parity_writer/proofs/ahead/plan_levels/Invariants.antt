use Rattle.std.proofs.Common.{◌≡◌}
use Rattle.disk_model.specs.Vault.{IsUntouched}
use Rattle.parity_writer.proofs.ahead.plan_levels.Given as goal

abbrev pub invariant-loop-level : goal.invariant-loop-level
invariant-loop-level g l = record {
  end : l.level-end ≡ (g.V.Vault.view l.fn.vault).levels;
  levels : (g.V.Vault.view l.vault).levels ≡ (g.V.Vault.view l.fn.vault).levels;
  untouched : IsUntouched (g.V.Vault.view l.fn.vault) (g.V.Vault.view l.vault);
}
