-- What the operations on vectors of 32 bytes hold at each lane.
use Rattle.std.proofs.Common.{◌≡◌, ℕ, ◌+◌, ◌-◌, ◌*◌, ◌/◌, ◌%◌, ◌^◌, ◌<◌, ◌≤◌, List, [], ◌++◌, zero-add, Bool, true, false, cond, leb, inl, inr, length-append, length, get_or, bit_and, replicate, refl, sym, ap, ◌∙◌, arith, w8, Fits}
use Rattle.std.specs.Int.Bits.{bit_xor, xor_block, xor_zero_r}
use Rattle.std.specs.Simd.Lanes.{zip2, sel_l, Each1}
use Rattle.std.proofs.lemmas.Simd.{Each1-get_or, Each1-from_get_or, length-zip2, get_or-zip2, get_or-replicate, length-sel_l, get_or-sel_l, swz_l, SwzOk, SwzOk-from_below, length-swz_l, get_or-swz_l_below}
use Rattle.std.proofs.lemmas.Nat.{and_le_r, and_mask}
use Rattle.std.proofs.lemmas.Bool.{cases_lt, leb-true, leb-false}
use Rattle.std.proofs.lemmas.List.{get_or_append_left, get_or-append_right}
use Rattle.gf256.specs.Field.{product}
use Rattle.gf256.proofs.Theorems.{product_by_parts, twice_small, twice_large}
use Rattle.cauchy.specs.Lanes.{HasLanes, AreLaneTables}

-- an operator on two vectors
pub HasLanes-zip2 : (f : ℕ → ℕ → ℕ) (a b : List ℕ) → length a ≡ 32 → length b ≡ 32 → HasLanes (zip2 f a b) (λ k. f (get_or a k 0) (get_or b k 0))
HasLanes-zip2 f a b p q =
    record {
      long = length-zip2 f a b (p ∙ sym q) ∙ p;
      each = λ k l. get_or-zip2 f a b k 0 0 0 (omega arith) (omega arith);
    }

-- an operator on two vectors of known lanes
pub HasLanes-both : (f : ℕ → ℕ → ℕ) (a b : List ℕ) (g h : ℕ → ℕ) → HasLanes a g → HasLanes b h → HasLanes (zip2 f a b) (λ k. f (g k) (h k))
HasLanes-both f a b g h first second =
    let both = HasLanes-zip2 f a b first.long second.long in
    record {
      long = both.long;
      each = λ k l. both.each k l ∙ ap (λ (x : ℕ). f x (get_or b k 0)) (first.each k l) ∙ ap (f (g k)) (second.each k l);
    }

HasLanes-splat : (x : ℕ) → HasLanes (replicate 32 x) (λ k. x)
HasLanes-splat x = record { long = refl; each = λ k l. get_or-replicate 32 k x 0 l }

HasLanes-self : (v : List ℕ) → length v ≡ 32 → HasLanes v (λ k. get_or v k 0)
HasLanes-self v long = record { long = long; each = λ k l. refl }

pub lane_lt : (v : List ℕ) (k : ℕ) → length v ≡ 32 → Each1 (Fits w8) v → k < 32 → get_or v k 0 < 256
lane_lt v k long fits h = (Each1-get_or (Fits w8) v k 0 (omega arith) fits).fits

-- ---- a table of sixteen, twice

pub HasLanes-twice : (t : List ℕ) → length t ≡ 16 → HasLanes (t ++ t) (λ k. get_or t (k % 16) 0)
HasLanes-twice t long =
    record {
      long = omega (arith, length-append t t);
      each = λ k l.
          elim (cases_lt k 16) [
            | inl first ↦ let same : k ≡ k % 16 = omega arith in get_or_append_left t t 0 k (omega arith) ∙ ap (λ (i : ℕ). get_or t i 0) same
            | inr second ↦ let same : k - 16 ≡ k % 16 = omega arith in get_or-append_right t t 16 k 0 long second ∙ ap (λ (i : ℕ). get_or t i 0) same
          ];
    }

-- ---- a look-up in such a table

places_ok : (js : List ℕ) (g : ℕ → ℕ) → HasLanes js g → ((k : ℕ) → k < 32 → g k < 16) → SwzOk w8 16 32 0 js
places_ok js g places small =
    SwzOk-from_below w8 16 2 32 0 js refl (omega (arith, places.long))
    (Each1-from_get_or (λ j. j < 16) js 0 (λ k l. omega (arith, places.each k (omega (arith, places.long)), small k (omega (arith, places.long)))))

looked_up : (table js : List ℕ) (f g : ℕ → ℕ) → HasLanes table (λ k. f (k % 16)) → HasLanes js g → ((k : ℕ) → k < 32 → g k < 16)
    → HasLanes (swz_l w8 16 table 0 js) (λ k. f (g k))
looked_up table js f g entries places small =
    record {
      long = length-swz_l w8 16 table 0 js ∙ places.long;
      each = λ k l.
          let below : get_or js k 0 < 16 = omega (arith, places.each k l, small k l) in
          let place : ℕ = 16 * ((0 + k) / 16) + get_or js k 0 in
          let within : place < 32 = omega arith in
          let column : place % 16 ≡ g k = omega (arith, places.each k l) in
          get_or-swz_l_below w8 16 table 0 js k (omega (arith, places.long)) below ∙ entries.each place within ∙ ap f column;
    }

-- ---- the products by halves

low_halves : (v : List ℕ) → length v ≡ 32 → HasLanes (zip2 bit_and v (replicate 32 15)) (λ k. bit_and (get_or v k 0) 15)
low_halves v long = HasLanes-both bit_and v (replicate 32 15) (λ k. get_or v k 0) (λ k. 15) (HasLanes-self v long) (HasLanes-splat 15)

abbrev pub down : ℕ → ℕ → ℕ
down a b = a / 2 ^ b

high_halves : (v : List ℕ) → length v ≡ 32 → HasLanes (zip2 down v (replicate 32 4)) (λ k. get_or v k 0 / 16)
high_halves v long = HasLanes-both down v (replicate 32 4) (λ k. get_or v k 0) (λ k. 4) (HasLanes-self v long) (HasLanes-splat 4)

pub low_ok : (v : List ℕ) → length v ≡ 32 → SwzOk w8 16 32 0 (zip2 bit_and v (replicate 32 15))
low_ok v long = places_ok (zip2 bit_and v (replicate 32 15)) (λ k. bit_and (get_or v k 0) 15) (low_halves v long) (λ k l. omega (arith, and_le_r (get_or v k 0) 15))

pub high_ok : (v : List ℕ) → length v ≡ 32 → Each1 (Fits w8) v → SwzOk w8 16 32 0 (zip2 down v (replicate 32 4))
high_ok v long fits = places_ok (zip2 down v (replicate 32 4)) (λ k. get_or v k 0 / 16) (high_halves v long) (λ k l. omega (arith, lane_lt v k long fits l))

pub HasLanes-products : (c : ℕ) (tables : List (List ℕ)) (v : List ℕ) → AreLaneTables c tables → length v ≡ 32 → Each1 (Fits w8) v
    → HasLanes (zip2 bit_xor (swz_l w8 16 (get_or tables 0 []) 0 (zip2 bit_and v (replicate 32 15))) (swz_l w8 16 (get_or tables 1 []) 0 (zip2 down v (replicate 32 4)))) (λ k. product c (get_or v k 0))
HasLanes-products c tables v are long fits =
    let low = looked_up (get_or tables 0 []) (zip2 bit_and v (replicate 32 15)) (product c) (λ k. bit_and (get_or v k 0) 15) are.low (low_halves v long) (λ k l. omega (arith, and_le_r (get_or v k 0) 15)) in
    let high = looked_up (get_or tables 1 []) (zip2 down v (replicate 32 4)) (λ x. product c (16 * x)) (λ k. get_or v k 0 / 16) are.high (high_halves v long) (λ k l. omega (arith, lane_lt v k long fits l)) in
    let both = HasLanes-both bit_xor _ _ (λ k. product c (bit_and (get_or v k 0) 15)) (λ k. product c (16 * (get_or v k 0 / 16))) low high in
    record {
      long = both.long;
      each = λ k l.
          both.each k l
          ∙ ap (λ (x : ℕ). bit_xor (product c x) (product c (16 * (get_or v k 0 / 16)))) (and_mask (get_or v k 0) 4)
          ∙ product_by_parts c (get_or v k 0);
    }

-- ---- twice each lane

-- a choice of two splats by the comparison of a splat with a vector
HasLanes-select : (t : ℕ → ℕ → Bool) (v : List ℕ) (x y z : ℕ) → length v ≡ 32
    → HasLanes (sel_l (zip2 t (replicate 32 x) v) (replicate 32 y) (replicate 32 z)) (λ k. cond (t x (get_or v k 0)) y z)
HasLanes-select t v x y z p =
    let long : length (zip2 t (replicate 32 x) v) ≡ 32 = length-zip2 t (replicate 32 x) v (sym p) in
    record {
      long = length-sel_l _ (replicate 32 y) (replicate 32 z) long long ∙ long;
      each = λ k l.
          get_or-sel_l _ (replicate 32 y) (replicate 32 z) k 0 (omega arith) l l
          ∙ (λ i. cond ((get_or-zip2 t (replicate 32 x) v k 0 0 false l (omega arith) ∙ ap (λ (a : ℕ). t a (get_or v k 0)) (get_or-replicate 32 k x 0 l)) i) (get_or-replicate 32 k y 0 l i) (get_or-replicate 32 k z 0 l i));
    }

abbrev pub wrapped : ℕ → ℕ → ℕ
wrapped a b = (a + b) % 2 ^ 8

-- twice a byte, where x^7 moves out of it and comes back as the rest of the modulus
twice_byte : (a : ℕ) (large : Bool) → a < 256 → leb 128 a ≡ large → bit_xor (wrapped a a) (cond large 0x1d 0) ≡ product 2 a
twice_byte a true h e =
    let low : 128 ≤ a = leb-true 128 a e in
    let blocks = xor_block 8 1 1 ((a + a) % 256) 0x1d (omega arith) (omega arith) in
    let whole : a * 2 ≡ 1 * 2 ^ 8 + (a + a) % 256 = omega arith in
    sym (twice_large a low h ∙ ap (λ (x : ℕ). bit_xor x 0x11d) whole ∙ blocks ∙ zero-add (bit_xor ((a + a) % 256) 0x1d))
twice_byte a false h e =
    let small : a < 128 = leb-false 128 a e in
    let whole : (a + a) % 2 ^ 8 ≡ a * 2 = omega arith in
    xor_zero_r (wrapped a a) ∙ whole ∙ sym (twice_small a small)

pub HasLanes-doubled : (v : List ℕ) → length v ≡ 32 → Each1 (Fits w8) v
    → HasLanes (zip2 bit_xor (zip2 wrapped v v) (sel_l (zip2 leb (replicate 32 128) v) (replicate 32 0x1d) (replicate 32 0))) (λ k. product 2 (get_or v k 0))
HasLanes-doubled v long fits =
    let both = HasLanes-both bit_xor _ _ (λ k. wrapped (get_or v k 0) (get_or v k 0)) (λ k. cond (leb 128 (get_or v k 0)) 0x1d 0)
    (HasLanes-zip2 wrapped v v long long) (HasLanes-select leb v 128 0x1d 0 long) in
    record { long = both.long; each = λ k l. both.each k l ∙ twice_byte (get_or v k 0) _ (lane_lt v k long fits l) refl }
