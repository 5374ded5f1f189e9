use Rattle.std.proofs.Common.{◌≡◌}
use Rattle.disk_model.specs.Calls.{MakesThese}
use Rattle.parity_writer.specs.Calls.{sync_calls}
use Rattle.parity_writer.proofs.SettleLemmas.{Settling}
use Rattle.parity_writer.proofs.settling.settle.Given as goal

abbrev pub invariant-loop-level : goal.invariant-loop-level
invariant-loop-level g l = record {
  settling : Settling l.level (g.V.Vault.view l.fn.vault) (g.V.Vault.view l.vault);
  made : MakesThese (sync_calls l.level) (g.V.Vault.view l.fn.vault) (g.V.Vault.view l.vault);
  end : l.level-end ≡ (g.V.Vault.view l.fn.vault).levels;
}
