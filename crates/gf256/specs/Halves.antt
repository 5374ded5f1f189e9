-- The product with a factor k by two tables of sixteen products, one for each half of a byte.
use Rattle.std.specs.Prelude.{◌≡◌, ℕ, ◌*◌, ◌/◌, ◌%◌, ◌<◌, List, [], slice_index, slice_index_or}
use Rattle.gf256.specs.Field.{field_sum, product}

-- entry i of the table for the low half, which is table 0, or for the high half, which is table 1
abbrev pub half_entry : List (List ℕ) → ℕ → ℕ → ℕ
half_entry tables half i = slice_index (slice_index_or tables half []) i

-- entry i of the first table is the product of k and i, and of the second the product of k and 16 times i
pub record AreHalves (k : ℕ) (tables : List (List ℕ)) : Type 0 where
  pub low : (i : ℕ) → i < 16 → half_entry tables 0 i ≡ product k i
  pub high : (i : ℕ) → i < 16 → half_entry tables 1 i ≡ product k (16 * i)

-- the sum of the entries for the low half and for the high half of a byte
abbrev pub halves_sum : List (List ℕ) → ℕ → ℕ
halves_sum tables a = field_sum (half_entry tables 0 (a % 16)) (half_entry tables 1 (a / 16))
