-- What is kept of each stripe beside a table while it is built.
use Rattle.std.specs.Prelude.{◌≡◌, ℕ, ◌<◌, ◌≤◌, List, length, Bool, true, false}
use Rattle.file_table.specs.Table.{Column}
use Rattle.file_table.specs.Valid.{IsHashedAt}
use Rattle.file_table.specs.Building.{last_column, Uses}

-- for each position the number, from 1, of the last column that uses it
pub record AreUsers (columns : List Column) (the_length : ℕ) (used : ℕ → ℕ) : Type 0 where
  pub within : (position : ℕ) → used position ≤ length columns
  pub here : (position : ℕ) → 0 < length columns → used position ≡ length columns → Uses (last_column columns) position
  pub nowhere_else : (position : ℕ) → 0 < length columns → position < the_length → Uses (last_column columns) position → used position ≡ length columns

-- for each stripe whether a block there lacks its hash
pub record AreLacking (columns : List Column) (the_length : ℕ) (unhashed : ℕ → Bool) : Type 0 where
  pub lacks : (stripe : ℕ) → unhashed stripe ≡ true → ¬ (IsHashedAt columns stripe)
  pub has : (stripe : ℕ) → stripe < the_length → unhashed stripe ≡ false → IsHashedAt columns stripe
