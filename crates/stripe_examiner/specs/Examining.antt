-- What is read of the levels of a stripe.
use Rattle.std.specs.Prelude.{ℕ, [], Bool, true, false}
use Rattle.disk_model.specs.Files.{Stays}
use Rattle.disk_model.specs.Vault.{VaultView, GoesOn, ChangesBy, DraftsStay}
use Rattle.parity_writer.specs.LevelReading.{ReadsLevels}
use Rattle.parity_writer.specs.LevelsValue.{LevelsValue}

-- its levels were read where a recovery is tried, and else nothing was asked of the vault
pub record ReadsNothing (old new : VaultView) : Type 0 where
  pub goes_on : GoesOn old new []
  pub changes : ChangesBy Stays old new
  pub drafts : DraftsStay old new

abbrev pub ReadsTried : Bool → ℕ → LevelsValue → VaultView → VaultView → Type 0
ReadsTried true stripe levels old new = ReadsLevels levels.block_size stripe levels.count levels.levels old new
ReadsTried false stripe levels old new = ReadsNothing old new
