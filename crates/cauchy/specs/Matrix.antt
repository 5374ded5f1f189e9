-- The extended Cauchy matrix over the field of 256 elements, and the parity of a row of blocks. Rows of the matrix, which
-- are called levels, are numbered from 0 to 5, and columns from 0 to 250.
use Rattle.std.specs.Prelude.{◌≡◌, ℕ, ◌-◌, ◌<◌, ◌==◌, List, [], length, map, slice_index, slice_index_or, if◌then◌else◌}
use Rattle.std.specs.List.{range_with_len}
use Rattle.gf256.specs.Field.{field_sum, sum_below, product, power, inverse, quotient}

-- A(0,c) = 1, A(1,c) = 2^c, and A(r,c) = (1 + 2^(r-1)) / (2^(-c) + 2^(r-1)) for r from 2 on
unfoldable pub entry_of : ℕ → ℕ → ℕ
entry_of r c =
    if r == 0 then 1
    else if r == 1 then power c
    else quotient (field_sum 1 (power (r - 1))) (field_sum (inverse (power c)) (power (r - 1)))

-- byte i of block c of a row of blocks; a block without it, and a row without the block, count as zeros
abbrev pub byte_of : List (List ℕ) → ℕ → ℕ → ℕ
byte_of row c i = slice_index (slice_index_or row c []) i

-- byte i of a level of a row: the sum over the columns c of A(level,c) times byte i of block c
unfoldable pub parity_byte : ℕ → List (List ℕ) → ℕ → ℕ
parity_byte level row i = sum_below (λ c. product (entry_of level c) (byte_of row c i)) (length row)

-- a level of a row of blocks of so many bytes
unfoldable pub parity_of : ℕ → ℕ → List (List ℕ) → List ℕ
parity_of level size row = map (parity_byte level row) (range_with_len 0 size)

-- the new bytes are the old ones with A(level,column) times the block added
pub record AddsTerm (level column : ℕ) (block old new : List ℕ) : Type 0 where
  pub same_length : length new ≡ length old
  pub bytes : (i : ℕ) → i < length old → slice_index new i ≡ field_sum (slice_index old i) (product (entry_of level column) (slice_index block i))
