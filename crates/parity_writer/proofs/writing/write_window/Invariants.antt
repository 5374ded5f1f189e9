use Rattle.std.proofs.Common.{◌≡◌, ◌*◌, length}
use Rattle.parity_writer.proofs.ChosenWrites.{WroteChosen}
use Rattle.parity_writer.proofs.writing.write_window.Given as goal

abbrev pub invariant-loop-i : goal.invariant-loop-i
invariant-loop-i g l = record {
  so_far : WroteChosen l.window (record { stripes = l.stripes; chosen = l.chosen }) l.i (g.V.Vault.view l.fn.vault) (g.V.Vault.view l.vault);
  end : l.i-end ≡ l.window.count;
  long : length l.sums ≡ 6 * l.window.block_size;
}
