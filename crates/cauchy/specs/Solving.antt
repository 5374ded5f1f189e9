-- The bytes of lost columns as sums over the levels, and which of them stand already.
use Rattle.std.specs.Prelude.{◌≡◌, ℕ, ◌<◌, ◌≤◌, List, [], length, slice_index_or}
use Rattle.gf256.specs.Field.{sum_below, product}
use Rattle.cauchy.specs.Lanes.{AreLaneTables}
use Rattle.cauchy.specs.System.{byte_in}

-- the byte of column j: the sum over the levels of their bytes, each times its coefficient for the column
abbrev pub recovered : (ℕ → ℕ → ℕ) → ℕ → (ℕ → ℕ) → ℕ → ℕ
recovered coefficients count given j = sum_below (λ i. product (coefficients i j) (given i)) count

-- there are tables for each coefficient of so many levels and columns
abbrev pub AreTablesOf : ℕ → (ℕ → ℕ → ℕ) → List (List (List (List ℕ))) → Type 0
AreTablesOf count coefficients tables =
    (i j : ℕ) → i < count → j < count → AreLaneTables (coefficients i j) (slice_index_or (slice_index_or tables i []) j [])

-- of the bytes from start on and before end, those of the columns before `done` are recovered, and all others are as they
-- were. There are as many blocks, of columns or of levels, as count says
pub record RecoversWithin (start end done block count : ℕ) (coefficients : ℕ → ℕ → ℕ) (old new : List ℕ) : Type 0 where
  pub same_length : length new ≡ length old
  pub within : (p j : ℕ) → start ≤ p → p < end → j < done
      → byte_in block new p j ≡ recovered coefficients count (byte_in block old p) j
  pub before : (p j : ℕ) → p < start → j < count → byte_in block new p j ≡ byte_in block old p j
  pub after : (p j : ℕ) → end ≤ p → p < block → j < count → byte_in block new p j ≡ byte_in block old p j
  pub later : (p j : ℕ) → p < block → done ≤ j → j < count → byte_in block new p j ≡ byte_in block old p j
