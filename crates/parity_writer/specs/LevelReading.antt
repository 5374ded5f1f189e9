-- How the levels of a stripe are read of a vault.
use Rattle.std.specs.Prelude.{◌≡◌, ℕ, ◌*◌, ◌<◌, ◌≤◌, ◌==◌, List, [], ◌∷◌, length, map, get_or, replicate, count_by, Bool, true, false, if◌then◌else◌, IsTrue, Option, None, Some}
use Rattle.std.specs.List.{range_with_len}
use Rattle.disk_model.specs.Bytes.{resized, read_from}
use Rattle.disk_model.specs.Cause.{RoseBy}
use Rattle.disk_model.specs.Files.{parity_of, Stays}
use Rattle.disk_model.specs.Vault.{VaultView, VaultDone, ParityRead, GoesOn, ChangesBy, DraftsStay}
use Rattle.disk_model.specs.declared.answer.Answer.{Answer}
use Rattle.disk_model.specs.declared.answer.Answer.TheVariants as answers
use Rattle.parity_writer.specs.declared.levels.LevelRead.{LevelRead}
use Rattle.parity_writer.specs.declared.levels.LevelRead.TheVariants as here
use Rattle.parity_writer.specs.LevelsValue.{LevelValue, no_level}

-- the vault failed, or gave these bytes, at most a block
abbrev pub LevelReading : Type 0
LevelReading = Option (List ℕ)

abbrev pub has_failed : LevelReading → Bool
has_failed None = true
has_failed (Some bytes) = false

-- what was read where so many bytes of a block came
abbrev pub state_by : ℕ → ℕ → LevelRead
state_by block_size got = if got == block_size then here.Bytes else here.Short

-- what is kept of a reading: of one that did not fail the bytes, with zeros behind them
abbrev pub kept_level : ℕ → LevelReading → LevelValue
kept_level block_size None = record { state = here.Unread; block = replicate block_size 0 }
kept_level block_size (Some bytes) = record {
  state = state_by block_size (length bytes);
  block = resized bytes block_size;
}

-- what the vault answered: that it failed, or the count of the bytes that came
abbrev pub level_answer : LevelReading → Answer
level_answer None = answers.Failed
level_answer (Some bytes) = answers.Bytes (length bytes)

-- the one call for a level
abbrev pub level_done : ℕ → ℕ → ℕ → LevelReading → VaultDone
level_done block_size stripe level reading = record {
  call = ParityRead level (stripe * block_size) block_size;
  answer = level_answer reading;
}

-- the calls for levels from the first on, in order
abbrev pub calls_of : ℕ → ℕ → List LevelReading → List VaultDone
calls_of block_size stripe readings = map (λ (level : ℕ). level_done block_size stripe level (get_or readings level None)) (range_with_len 0 (length readings))

-- at most a block came, and what the level's file has there, where the vault tells its files
abbrev pub IsReadingOf : VaultView → ℕ → ℕ → ℕ → LevelReading → Type 0
IsReadingOf v block_size stripe level None = Unit {0}
IsReadingOf v block_size stripe level (Some bytes) =
    (length bytes ≤ block_size) × (IsTrue v.tells → bytes ≡ read_from (parity_of v.files level) (stripe * block_size) block_size)

-- One level was read into its place.
pub record ReadsLevel (block_size stripe level : ℕ) (value : LevelValue) (old new : VaultView) : Type 0 where
  pub reading : LevelReading
  pub is_kept : value ≡ kept_level block_size reading
  pub is_of : IsReadingOf old block_size stripe level reading
  pub cause : has_failed reading ≡ true → RoseBy 1 old.faults new.faults
  pub goes_on : GoesOn old new (level_done block_size stripe level reading ∷ [])
  pub changes : ChangesBy Stays old new
  pub drafts : DraftsStay old new

-- The first so many levels were read, in order, each by one call. The count of faults rose by no less than the levels
-- that were not read.
pub record ReadsLevels (block_size stripe count : ℕ) (values : List LevelValue) (old new : VaultView) : Type 0 where
  pub readings : List LevelReading
  pub as_many : length readings ≡ count
  pub are_kept : (level : ℕ) → level < count → get_or values level no_level ≡ kept_level block_size (get_or readings level None)
  pub are_of : (level : ℕ) → level < count → IsReadingOf old block_size stripe level (get_or readings level None)
  pub unread : RoseBy (count_by has_failed readings) old.faults new.faults
  pub goes_on : GoesOn old new (calls_of block_size stripe readings)
  pub changes : ChangesBy Stays old new
  pub drafts : DraftsStay old new
