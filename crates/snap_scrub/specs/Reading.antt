-- What a scrub reads of stripes: their cells, and the levels of those whose cells are all right.
use Rattle.std.specs.Prelude.{◌≡◌, ℕ, ◌<◌, List, length, map, get_or, count_by, sum_by, All, if◌then◌else◌, None}
use Rattle.std.specs.List.{flat_map}
use Rattle.disk_model.specs.Cause.{RoseBy}
use Rattle.disk_model.specs.Files.{Stays}
use Rattle.disk_model.specs.Vault.{VaultView, VaultDone, GoesOn, ChangesBy, DraftsStay}
use Rattle.file_table.specs.Table.{TableValue}
use Rattle.parity_writer.specs.LevelReading.{LevelReading, IsReadingOf, has_failed, calls_of}
use Rattle.stripe_findings.specs.Reading.{StripeReading, is_verified}

-- what was read of a stripe
pub record ScrubReading : Type 0 where
  pub cells : StripeReading
  pub levels : List LevelReading

abbrev pub cells_of : List ScrubReading → List StripeReading
cells_of readings = map (λ (reading : ScrubReading). reading.cells) readings

-- each level is read where all cells are right, and none elsewhere
abbrev pub HasLevels : TableValue → ScrubReading → Type 0
HasLevels table reading = length reading.levels ≡ (if is_verified table reading.cells then table.shape.levels else 0)

-- what came of the levels of a stripe was at most a block, and what the levels' files have there, where the vault tells its files
abbrev pub AreLevelsOf : VaultView → ℕ → ScrubReading → Type 0
AreLevelsOf v block_size reading =
    (r : ℕ) → r < length reading.levels → IsReadingOf v block_size reading.cells.stripe r (get_or reading.levels r None)

-- the calls for the levels of a stripe, one for each in order, and how many of them failed
abbrev pub level_calls : ℕ → ScrubReading → List VaultDone
level_calls block_size reading = calls_of block_size reading.cells.stripe reading.levels

abbrev pub unread_levels : ScrubReading → ℕ
unread_levels reading = count_by has_failed reading.levels

-- The levels of the stripes were read, stripe after stripe, and nothing else was done to the vault: its count of faults rose by no less
-- than the levels that were not read.
pub record LevelsAreRead (table : TableValue) (readings : List ScrubReading) (old new : VaultView) : Type 0 where
  pub are : All (AreLevelsOf old table.shape.block_size) readings
  pub unread : RoseBy (sum_by unread_levels readings) old.faults new.faults
  pub goes_on : GoesOn old new (flat_map (level_calls table.shape.block_size) readings)
  pub changes : ChangesBy Stays old new
  pub drafts : DraftsStay old new
