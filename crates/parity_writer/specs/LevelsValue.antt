-- What is kept of the levels of a stripe.
use Rattle.std.specs.Prelude.{◌≡◌, ℕ, ◌≤◌, List, [], length, All, slice_index_or}
use Rattle.parity_writer.specs.declared.levels.LevelRead.{LevelRead}
use Rattle.parity_writer.specs.declared.levels.LevelRead.TheVariants as here

-- what was read of one level's block, and the block
pub record LevelValue : Type 0 where
  pub state : LevelRead
  pub block : List ℕ

-- the size of a block, how many levels the vault had that was read last, and what is kept of each
pub record LevelsValue : Type 0 where
  pub block_size : ℕ
  pub count : ℕ
  pub levels : List LevelValue

-- blocks of one size
abbrev pub HaveSize : ℕ → List LevelValue → Type 0
HaveSize block_size levels = All (λ (level : LevelValue). length level.block ≡ block_size) levels

-- what holds of them
pub record AreLevels (value : LevelsValue) : Type 0 where
  pub within : value.count ≤ length value.levels
  pub room : length value.levels ≡ 6
  pub size : HaveSize value.block_size value.levels

-- what stands for a level that is not there, and what is kept of a level
abbrev pub no_level : LevelValue
no_level = record { state = here.Unread; block = [] }

abbrev pub level_at : LevelsValue → ℕ → LevelValue
level_at value r = slice_index_or value.levels r no_level
