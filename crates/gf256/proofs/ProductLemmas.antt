-- The product keeps sums in each factor, so its laws follow from the products of 1, 2, 4 up to 128, which are computed.
use Rattle.std.proofs.Common.{◌≡◌, ℕ, zero, suc, ◌+◌, ◌*◌, ◌^◌, ◌<◌, ◌≤◌, Bool, true, eqb, ltb, refl, ap, ◌∙◌, inl, inr, zero-mul, one-mul, arith}
use Rattle.std.specs.Int.{bit_at}
use Rattle.std.specs.Int.Bits.{bit_xor, xor_assoc, xor_zero_l, xor_zero_r, xor_self}
use Rattle.std.proofs.lemmas.Nat.{xor_comm}
use Rattle.std.proofs.lemmas.Nat.Bits.{bit_at-lt}
use Rattle.std.proofs.lemmas.Bool.{eqb-true, ltb-true}
use Rattle.gf256.specs.Field.{modulus, divided, remainder, carryless_product, product}
use Rattle.gf256.proofs.Additive.{IsAdditive, IsAdditive-after, IsAdditive-xor, IsAdditive-sum_below, IsAdditive-times_bit, IsAdditive-bit_at, IsAdditive-shift, agree_below, stays_below, additive_zero, zero_or_one}
use Rattle.gf256.proofs.Tests.{all_below, passes_below}

IsAdditive-divided : (n : ℕ) → IsAdditive (divided n)
IsAdditive-divided zero a b = refl
IsAdditive-divided (suc n) a b =
    IsAdditive-after (divided n) (λ a. bit_xor a (bit_at a (8 + n) * (modulus * 2 ^ n))) (IsAdditive-divided n)
    (IsAdditive-xor (λ a. a) (λ a. bit_at a (8 + n) * (modulus * 2 ^ n)) (λ a b. refl) (IsAdditive-bit_at (8 + n) (modulus * 2 ^ n))) a b

IsAdditive-remainder : IsAdditive remainder
unfolding remainder
IsAdditive-remainder a b = IsAdditive-divided 7 a b

-- a product with a sum, in the second factor
pub product_of_sum : (a b c : ℕ) → product a (bit_xor b c) ≡ bit_xor (product a b) (product a c)
unfolding product carryless_product
product_of_sum a b c =
    IsAdditive-after remainder (carryless_product a) IsAdditive-remainder
    (IsAdditive-sum_below (λ b i. bit_at b i * (a * 2 ^ i)) (λ i. IsAdditive-bit_at i (a * 2 ^ i)) 8) b c

-- and in the first
pub sum_times : (a b c : ℕ) → product (bit_xor a b) c ≡ bit_xor (product a c) (product b c)
unfolding product carryless_product
sum_times a b c =
    IsAdditive-after remainder (λ a. carryless_product a c) IsAdditive-remainder
    (IsAdditive-sum_below (λ a i. bit_at c i * (a * 2 ^ i))
    (λ i. IsAdditive-after (λ a. bit_at c i * a) (λ a. a * 2 ^ i) (IsAdditive-times_bit (bit_at c i) (bit_at-lt c i)) (IsAdditive-shift i)) 8) a b

pub product-zero : (a : ℕ) → product a 0 ≡ 0
product-zero a = additive_zero (product a) (product_of_sum a)

pub zero_times : (a : ℕ) → product 0 a ≡ 0
zero_times a = additive_zero (λ x. product x a) (λ x y. sum_times x y a)

-- two products of elements agree where they agree at powers of 2
agree_on_pairs : (f g : ℕ → ℕ → ℕ) → ((b : ℕ) → IsAdditive (λ a. f a b)) → ((b : ℕ) → IsAdditive (λ a. g a b))
    → ((a : ℕ) → IsAdditive (f a)) → ((a : ℕ) → IsAdditive (g a))
    → ((i j : ℕ) → i < 8 → j < 8 → f (2 ^ i) (2 ^ j) ≡ g (2 ^ i) (2 ^ j)) → (a b : ℕ) → a < 256 → b < 256 → f a b ≡ g a b
agree_on_pairs f g f_left g_left f_right g_right basis a b ha hb =
    agree_below (λ a. f a b) (λ a. g a b) (f_left b) (g_left b) 8
    (λ i hi. agree_below (f (2 ^ i)) (g (2 ^ i)) (f_right (2 ^ i)) (g_right (2 ^ i)) 8 (λ j hj. basis i j hi hj) b hb) a ha

-- ---- the factors change places

commutes_at : ℕ → ℕ → Bool
unfolding product
commutes_at i j = eqb (product (2 ^ i) (2 ^ j)) (product (2 ^ j) (2 ^ i))

commutes_there : all_below (λ i. all_below (commutes_at i) 8) 8 ≡ true
unfolding commutes_at product remainder carryless_product
commutes_there = refl

pub product_comm : (a b : ℕ) → a < 256 → b < 256 → product a b ≡ product b a
unfolding commutes_at
product_comm =
    agree_on_pairs product (λ a b. product b a) (λ b a c. sum_times a c b) (λ b a c. product_of_sum b a c) (λ a b c. product_of_sum a b c) (λ a b c. sum_times b c a)
    (λ i j hi hj. eqb-true _ _ (passes_below (commutes_at i) 8 j (passes_below (λ i. all_below (commutes_at i) 8) 8 i commutes_there hi) hj))

-- ---- 1 is the unit

unit_at : ℕ → Bool
unit_at i = eqb (product 1 (2 ^ i)) (2 ^ i)

unit_there : all_below unit_at 8 ≡ true
unfolding unit_at product remainder carryless_product
unit_there = refl

pub one_times : (a : ℕ) → a < 256 → product 1 a ≡ a
unfolding unit_at
one_times = agree_below (product 1) (λ a. a) (product_of_sum 1) (λ a b. refl) 8 (λ i hi. eqb-true _ _ (passes_below unit_at 8 i unit_there hi))

-- ---- three factors

associates_at : ℕ → ℕ → ℕ → Bool
associates_at i j k = eqb (product (product (2 ^ i) (2 ^ j)) (2 ^ k)) (product (2 ^ i) (product (2 ^ j) (2 ^ k)))

associates_there : all_below (λ i. all_below (λ j. all_below (associates_at i j) 8) 8) 8 ≡ true
unfolding associates_at product remainder carryless_product
associates_there = refl

pub product_assoc : (a b c : ℕ) → a < 256 → b < 256 → c < 256 → product (product a b) c ≡ product a (product b c)
unfolding associates_at
product_assoc a b c ha hb hc =
    agree_below (λ a. product (product a b) c) (λ a. product a (product b c))
    (IsAdditive-after (λ x. product x c) (λ x. product x b) (λ x y. sum_times x y c) (λ x y. sum_times x y b)) (λ x y. sum_times x y (product b c)) 8
    (λ i hi. agree_on_pairs (λ b c. product (product (2 ^ i) b) c) (λ b c. product (2 ^ i) (product b c))
    (λ c. IsAdditive-after (λ x. product x c) (product (2 ^ i)) (λ x y. sum_times x y c) (product_of_sum (2 ^ i)))
    (λ c. IsAdditive-after (product (2 ^ i)) (λ x. product x c) (product_of_sum (2 ^ i)) (λ x y. sum_times x y c))
    (λ b. product_of_sum (product (2 ^ i) b))
    (λ b. IsAdditive-after (product (2 ^ i)) (product b) (product_of_sum (2 ^ i)) (product_of_sum b))
    (λ j k hj hk. eqb-true _ _ (passes_below (associates_at i j) 8 k (passes_below (λ j. all_below (associates_at i j) 8) 8 j (passes_below (λ i. all_below (λ j. all_below (associates_at i j) 8) 8) 8 i associates_there hi) hj) hk))
    b c hb hc) a ha

-- ---- a product of elements is an element

small_at : ℕ → ℕ → Bool
small_at i j = ltb (product (2 ^ i) (2 ^ j)) 256

small_there : all_below (λ i. all_below (small_at i) 8) 8 ≡ true
unfolding small_at product remainder carryless_product
small_there = refl

pub product_lt : (a b : ℕ) → a < 256 → b < 256 → product a b < 256
unfolding small_at
product_lt a b ha hb =
    stays_below (λ x. product x b) (λ x y. sum_times x y b) 8 8
    (λ i hi. stays_below (product (2 ^ i)) (product_of_sum (2 ^ i)) 8 8
    (λ j hj. ltb-true _ _ (passes_below (small_at i) 8 j (passes_below (λ i. all_below (small_at i) 8) 8 i small_there hi) hj)) b hb) a ha

-- ---- the remainder is that of a division by the modulus

IsAdditive-carryless_product : (a : ℕ) → IsAdditive (carryless_product a)
unfolding carryless_product
IsAdditive-carryless_product a = IsAdditive-sum_below (λ b i. bit_at b i * (a * 2 ^ i)) (λ i. IsAdditive-bit_at i (a * 2 ^ i)) 8

shifted_at : ℕ → Bool
shifted_at n = eqb (carryless_product modulus (2 ^ n)) (modulus * 2 ^ n)

shifted_there : all_below shifted_at 8 ≡ true
unfolding shifted_at carryless_product
shifted_there = refl

modulus_times_bit : (bit n : ℕ) → bit < 2 → n < 8 → carryless_product modulus (bit * 2 ^ n) ≡ bit * (modulus * 2 ^ n)
unfolding shifted_at
modulus_times_bit bit n h within =
    elim (zero_or_one bit h) [
      | inl none ↦ rw none (simp zero-mul (additive_zero (carryless_product modulus) (IsAdditive-carryless_product modulus)))
      | inr one ↦ rw one (simp one-mul (eqb-true _ _ (passes_below shifted_at 8 n shifted_there within)))
    ]

-- the multiple of the modulus that the long division takes away
division : ℕ → ℕ → ℕ
division zero a = 0
division (suc n) a = bit_xor (bit_at a (8 + n) * 2 ^ n) (division n (bit_xor a (bit_at a (8 + n) * (modulus * 2 ^ n))))

division_leaves : (n a : ℕ) → n ≤ 8 → bit_xor (carryless_product modulus (division n a)) (divided n a) ≡ a
unfolding division
division_leaves zero a h =
    ap (λ (x : ℕ). bit_xor x a) (additive_zero (carryless_product modulus) (IsAdditive-carryless_product modulus)) ∙ xor_zero_l a
division_leaves (suc n) a h =
    let bit = bit_at a (8 + n) in
    let t = bit * (modulus * 2 ^ n) in
    let rest = bit_xor a t in
    ap (λ (x : ℕ). bit_xor x (divided n rest))
    (IsAdditive-carryless_product modulus (bit * 2 ^ n) (division n rest)
    ∙ ap (λ (x : ℕ). bit_xor x (carryless_product modulus (division n rest))) (modulus_times_bit bit n (bit_at-lt a (8 + n)) h))
    ∙ xor_assoc t (carryless_product modulus (division n rest)) (divided n rest)
    ∙ ap (bit_xor t) (division_leaves n rest (omega arith))
    ∙ xor_comm t (bit_xor a t) ∙ xor_assoc a t t ∙ ap (bit_xor a) (xor_self t) ∙ xor_zero_r a

pub product_is_remainder : (a b : ℕ) → (q : ℕ) × (bit_xor (carryless_product modulus q) (product a b) ≡ carryless_product a b)
unfolding product remainder
product_is_remainder a b = (division 7 (carryless_product a b), division_leaves 7 (carryless_product a b) (omega arith))
