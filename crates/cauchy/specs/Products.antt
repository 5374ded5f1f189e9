-- The products of one coefficient with the bytes of a block, added to a level.
use Rattle.std.specs.Prelude.{◌≡◌, ℕ, ◌<◌, ◌≤◌, List, length, slice_index}
use Rattle.gf256.specs.Field.{field_sum, product}

-- the old byte at a place, with the coefficient times the block's byte added
abbrev pub with_product : ℕ → List ℕ → List ℕ → ℕ → ℕ
with_product coefficient block old i = field_sum (slice_index old i) (product coefficient (slice_index block i))

-- each byte from start on and before end has the product added, and all others are as they were
pub record AddsWithin (start end coefficient : ℕ) (block old new : List ℕ) : Type 0 where
  pub same_length : length new ≡ length old
  pub within : (i : ℕ) → start ≤ i → i < end → slice_index new i ≡ with_product coefficient block old i
  pub before : (i : ℕ) → i < start → slice_index new i ≡ slice_index old i
  pub after : (i : ℕ) → end ≤ i → slice_index new i ≡ slice_index old i

-- each byte has the product added
pub record AddsProducts (coefficient : ℕ) (block old new : List ℕ) : Type 0 where
  pub same_length : length new ≡ length old
  pub bytes : (i : ℕ) → i < length old → slice_index new i ≡ with_product coefficient block old i
