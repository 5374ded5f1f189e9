-- Values of the published code, computed on the definitions.
use Rattle.std.proofs.Common.{◌≡◌, [], ◌∷◌, map, refl}
use Rattle.gf256.specs.Field.{field_sum, product, power, inverse, quotient, remainder, carryless_product}
use Rattle.std.specs.Prelude.{slice_index}
use Rattle.cauchy.specs.System.{chosen_sum}
use Rattle.cauchy.specs.Recovery.{others_sum}
use Rattle.cauchy.specs.Matrix.{entry_of, parity_byte, parity_of}

-- the first three columns of the six rows

pub row_zero : map (entry_of 0) (0 ∷ 1 ∷ 2 ∷ []) ≡ 0x01 ∷ 0x01 ∷ 0x01 ∷ []
unfolding entry_of quotient inverse power product remainder carryless_product
row_zero = refl

pub row_one : map (entry_of 1) (0 ∷ 1 ∷ 2 ∷ []) ≡ 0x01 ∷ 0x02 ∷ 0x04 ∷ []
unfolding entry_of quotient inverse power product remainder carryless_product
row_one = refl

pub row_two : map (entry_of 2) (0 ∷ 1 ∷ 2 ∷ []) ≡ 0x01 ∷ 0xf5 ∷ 0xd2 ∷ []
unfolding entry_of quotient inverse power product remainder carryless_product
row_two = refl

pub row_three : map (entry_of 3) (0 ∷ 1 ∷ 2 ∷ []) ≡ 0x01 ∷ 0xbb ∷ 0xa6 ∷ []
unfolding entry_of quotient inverse power product remainder carryless_product
row_three = refl

pub row_four : map (entry_of 4) (0 ∷ 1 ∷ 2 ∷ []) ≡ 0x01 ∷ 0x97 ∷ 0x7f ∷ []
unfolding entry_of quotient inverse power product remainder carryless_product
row_four = refl

pub row_five : map (entry_of 5) (0 ∷ 1 ∷ 2 ∷ []) ≡ 0x01 ∷ 0x2b ∷ 0x3f ∷ []
unfolding entry_of quotient inverse power product remainder carryless_product
row_five = refl

-- the last column
pub last_column : entry_of 1 250 ≡ 0x6c
unfolding entry_of quotient inverse power product remainder carryless_product
last_column = refl

-- three blocks of one byte, 1, 2 and 4, at blocks of two bytes
pub three_blocks : map (λ level. parity_of level 2 ((1 ∷ []) ∷ (2 ∷ []) ∷ (4 ∷ []) ∷ [])) (0 ∷ 1 ∷ 2 ∷ 3 ∷ 4 ∷ 5 ∷ [])
    ≡ (0x07 ∷ 0 ∷ []) ∷ (0x15 ∷ 0 ∷ []) ∷ (0x99 ∷ 0 ∷ []) ∷ (0xc8 ∷ 0 ∷ []) ∷ (0xd3 ∷ 0 ∷ []) ∷ (0xab ∷ 0 ∷ []) ∷ []
unfolding parity_of parity_byte entry_of quotient inverse power product remainder carryless_product
three_blocks = refl

-- columns 0 and 1 of the three blocks, of 1 and 2, from levels 1 and 2 less the third
pub two_lost_columns : map (λ level. chosen_sum level (0 ∷ 1 ∷ []) (slice_index (1 ∷ 2 ∷ []))) (1 ∷ 2 ∷ []) ≡ 0x05 ∷ 0xf6 ∷ []
unfolding entry_of quotient inverse power product remainder carryless_product
two_lost_columns = refl

pub remainders : map (λ level. field_sum (parity_byte level ((1 ∷ []) ∷ (2 ∷ []) ∷ (4 ∷ []) ∷ []) 0) (others_sum level (0 ∷ 1 ∷ []) ((1 ∷ []) ∷ (2 ∷ []) ∷ (4 ∷ []) ∷ []) 0)) (1 ∷ 2 ∷ [])
    ≡ 0x05 ∷ 0xf6 ∷ []
unfolding parity_byte entry_of quotient inverse power product remainder carryless_product
remainders = refl
