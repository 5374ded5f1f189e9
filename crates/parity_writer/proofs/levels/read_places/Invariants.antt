use Rattle.std.proofs.Common.{◌≡◌}
use Rattle.parity_writer.specs.LevelReading.{ReadsLevels}
use Rattle.parity_writer.specs.LevelsValue.{HaveSize}
use Rattle.parity_writer.proofs.levels.read_places.Given as goal

abbrev pub invariant-loop-level : goal.invariant-loop-level
invariant-loop-level g l = record {
  end : l.level-end ≡ (g.V.Vault.view l.fn.vault).levels;
  size : HaveSize l.block_size l.places;
  read : ReadsLevels l.block_size l.stripe l.level l.places (g.V.Vault.view l.fn.vault) (g.V.Vault.view l.vault);
}
