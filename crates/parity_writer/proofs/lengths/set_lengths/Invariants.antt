use Rattle.std.proofs.Common.{◌≡◌, ◌<◌, IsTrue}
use Rattle.disk_model.specs.Bytes.{resized}
use Rattle.disk_model.specs.Calls.{Makes, MakesThese}
use Rattle.disk_model.specs.Vault.{Reads}
use Rattle.parity_writer.specs.Calls.{IsLengthCall, length_calls}
use Rattle.parity_writer.specs.Keeps.{KeepsAt}
use Rattle.parity_writer.proofs.Keeping.{Keeping}
use Rattle.parity_writer.proofs.LevelsLemmas.{Mapped}
use Rattle.parity_writer.proofs.lengths.set_lengths.Given as goal

abbrev pub invariant-loop-level : goal.invariant-loop-level
invariant-loop-level g l = record {
  keeping : Keeping (KeepsAt (λ i. i < l.bytes)) (g.V.Vault.view l.fn.vault) (g.V.Vault.view l.vault);
  made : Makes (IsLengthCall l.bytes) (g.V.Vault.view l.fn.vault) (g.V.Vault.view l.vault);
  ordered : IsTrue (g.V.Vault.view l.fn.vault).tells → MakesThese (length_calls l.level l.bytes (g.V.Vault.view l.fn.vault).files) (g.V.Vault.view l.fn.vault) (g.V.Vault.view l.vault);
  end : l.level-end ≡ (g.V.Vault.view l.fn.vault).levels;
  set : Reads (Mapped (λ k xs. resized xs l.bytes) l.level (g.V.Vault.view l.fn.vault).files) (g.V.Vault.view l.vault);
}
