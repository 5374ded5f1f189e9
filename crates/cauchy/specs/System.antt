-- The equations that lost blocks satisfy: of the chosen levels, in the chosen columns.
use Rattle.std.specs.Prelude.{◌≡◌, ◌≢◌, ℕ, ◌+◌, ◌*◌, ◌<◌, ◌≤◌, List, length, slice_index}
use Rattle.gf256.specs.Field.{sum_below, product}
use Rattle.cauchy.specs.Matrix.{entry_of}

-- numbers below a bound, none of them twice
pub record AreDistinctBelow (bound : ℕ) (numbers : List ℕ) : Type 0 where
  pub below : (k : ℕ) → k < length numbers → slice_index numbers k < bound
  pub distinct : (j k : ℕ) → j < k → k < length numbers → slice_index numbers j ≢ slice_index numbers k

-- as many columns as levels, from 1 to 6, each within the matrix and none twice
pub record IsChoice (columns levels : List ℕ) : Type 0 where
  pub same_count : length columns ≡ length levels
  pub some : 1 ≤ length levels
  pub at_most_six : length levels ≤ 6
  pub each_column : AreDistinctBelow 251 columns
  pub each_level : AreDistinctBelow 6 levels

-- the entries at the chosen levels and columns
abbrev pub chosen : List ℕ → List ℕ → ℕ → ℕ → ℕ
chosen columns levels i j = entry_of (slice_index levels i) (slice_index columns j)

-- the sum over the chosen columns of A(level,column) times the byte for it
abbrev pub chosen_sum : ℕ → List ℕ → (ℕ → ℕ) → ℕ
chosen_sum level columns bytes = sum_below (λ j. product (entry_of level (slice_index columns j)) (bytes j)) (length columns)

-- the bytes for the columns have the given sums at the levels
pub record IsSolution (columns levels : List ℕ) (given bytes : ℕ → ℕ) : Type 0 where
  pub are_bytes : (j : ℕ) → j < length columns → bytes j < 256
  pub sums : (i : ℕ) → i < length levels → chosen_sum (slice_index levels i) columns bytes ≡ given i

-- byte p of block i, where blocks of so many bytes stand end to end
abbrev pub byte_in : ℕ → List ℕ → ℕ → ℕ → ℕ
byte_in block work p i = slice_index work (i * block + p)

-- the new blocks, one for each column, have the old ones, one for each level, as their sums
pub record SolvesBlocks (columns levels : List ℕ) (block : ℕ) (old new : List ℕ) : Type 0 where
  pub same_length : length new ≡ length old
  pub every_byte : (p : ℕ) → p < block → IsSolution columns levels (byte_in block old p) (byte_in block new p)
