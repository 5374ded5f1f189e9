-- Rows of blocks, and the row that is recovered where some columns are lost.
use Rattle.std.specs.Prelude.{◌≡◌, ℕ, ◌<◌, ◌≤◌, ◌==◌, Bool, true, false, List, [], ◌∷◌, ◌++◌, length, slice_index, slice_index_or, if◌then◌else◌}
use Rattle.gf256.specs.Field.{field_sum, sum_below, product}
use Rattle.cauchy.specs.Matrix.{entry_of, byte_of, parity_byte, parity_of}
use Rattle.cauchy.specs.System.{IsChoice, byte_in}

-- what stands in the blocks of a row is bytes
abbrev pub AreBytes : List (List ℕ) → Type 0
AreBytes row = (c p : ℕ) → byte_of row c p < 256

-- blocks of so many bytes each
pub record IsRow (size : ℕ) (row : List (List ℕ)) : Type 0 where
  pub sizes : (c : ℕ) → c < length row → length (slice_index_or row c []) ≡ size
  pub are_bytes : AreBytes row

-- whether a column is among the chosen ones
abbrev pub is_among : List ℕ → ℕ → Bool
is_among [] c = false
is_among (m ∷ ms) c = if m == c then true else is_among ms c

-- the sum over all other columns of A(level,column) times their byte p
abbrev pub others_sum : ℕ → List ℕ → List (List ℕ) → ℕ → ℕ
others_sum level columns row p =
    sum_below (λ c. if is_among columns c then 0 else product (entry_of level c) (byte_of row c p)) (length row)

-- the missing columns are columns of the row, which has no more than the matrix
pub record IsPart (missing : List ℕ) (row : List (List ℕ)) : Type 0 where
  pub within : (j : ℕ) → j < length missing → slice_index missing j < length row
  pub at_most : length row ≤ 251

-- with one more block in the row the sum over all other columns grows by the column's term, unless the column is missing
pub record GrowsByColumn (level : ℕ) (missing : List ℕ) (row : List (List ℕ)) (block : List ℕ) (p : ℕ) : Type 0 where
  pub missing_column : is_among missing (length row) ≡ true
      → others_sum level missing (row ++ block ∷ []) p ≡ others_sum level missing row p
  pub other_column : is_among missing (length row) ≡ false
      → others_sum level missing (row ++ block ∷ []) p
      ≡ field_sum (others_sum level missing row p) (product (entry_of level (length row)) (slice_index block p))

-- columns of a row are missing, and a block is given for each of as many levels
pub record CanRecover (size : ℕ) (row : List (List ℕ)) (missing levels : List ℕ) (given : List (List ℕ)) : Type 0 where
  pub choice : IsChoice missing levels
  pub part : IsPart missing row
  pub row_blocks : IsRow size row
  pub given_blocks : IsRow size given
  pub given_count : length given ≡ length levels

-- a row that agrees with the given one outside the missing columns, and whose chosen levels are the given blocks
pub record IsRecovered (size : ℕ) (row : List (List ℕ)) (missing levels : List ℕ) (given recovered : List (List ℕ)) : Type 0 where
  pub is_row : IsRow size recovered
  pub same_count : length recovered ≡ length row
  pub others : (c : ℕ) → c < length row → is_among missing c ≡ false → slice_index_or recovered c [] ≡ slice_index_or row c []
  pub given_levels : (i : ℕ) → i < length levels → parity_of (slice_index levels i) size recovered ≡ slice_index_or given i []

-- block i is level i of the row, less the sums of all columns but the missing ones
abbrev pub HoldsRemainders : List (List ℕ) → List ℕ → List ℕ → ℕ → List ℕ → Type 0
HoldsRemainders row missing levels block work =
    (i p : ℕ) → i < length levels → p < block
    → byte_in block work p i ≡ field_sum (parity_byte (slice_index levels i) row p) (others_sum (slice_index levels i) missing row p)

-- block j is the row's block of the missing column j
abbrev pub HoldsColumns : List (List ℕ) → List ℕ → ℕ → List ℕ → Type 0
HoldsColumns row missing block work =
    (j p : ℕ) → j < length missing → p < block → byte_in block work p j ≡ byte_of row (slice_index missing j) p
