use Rattle.std.proofs.Common.{◌≡◌}
use Rattle.parity_writer.proofs.ChosenWrites.{WroteChosen}
use Rattle.parity_writer.proofs.summing.write_sums.Given as goal

abbrev pub invariant-loop-i : goal.invariant-loop-i
invariant-loop-i g l = record {
  so_far : WroteChosen l.window (record { stripes = l.stripes; chosen = l.chosen }) l.i (g.V.Vault.view l.fn.vault) (g.V.Vault.view l.vault);
  end : l.i-end ≡ l.window.count;
}
