-- The product by shifts: a factor is halved, and the other doubled.
use Rattle.std.proofs.Common.{◌≡◌, ℕ, ◌+◌, ◌-◌, ◌*◌, ◌/◌, ◌%◌, ◌<◌, ◌≤◌, Bool, true, eqb, refl, sym, ap, ◌∙◌, add-zero, zero-add, zero-mul, arith}
use Rattle.std.specs.Int.Bits.{bit_xor, xor_block, xor_assoc, xor_zero_r, xor_zero_l}
use Rattle.std.proofs.lemmas.Bool.{eqb-true}
use Rattle.gf256.specs.Field.{product, remainder, carryless_product}
use Rattle.gf256.proofs.ProductLemmas.{product_of_sum, product-zero, product_assoc, product_comm}
use Rattle.gf256.proofs.InverseLemmas.{times_one}
use Rattle.gf256.proofs.Tests.{all_below, passes_below}

doubled_at : ℕ → Bool
doubled_at a = eqb (product 2 (128 + a)) (bit_xor ((128 + a) * 2) 0x11d)

doubled_there : all_below doubled_at 128 ≡ true
unfolding doubled_at product remainder carryless_product
doubled_there = refl

-- twice an element with a coefficient of x^7, where the modulus takes that of x^8 away
pub twice_large : (a : ℕ) → 128 ≤ a → a < 256 → product 2 a ≡ bit_xor (a * 2) 0x11d
unfolding doubled_at
twice_large a low high =
    let rest : 128 + (a - 128) ≡ a = omega arith in
    ap (product 2) (sym rest) ∙ eqb-true _ _ (passes_below doubled_at 128 (a - 128) doubled_there (omega arith)) ∙ ap (λ (x : ℕ). bit_xor (x * 2) 0x11d) rest

half_at : ℕ → Bool
half_at a = eqb (product 2 a) (a * 2)

half_there : all_below half_at 128 ≡ true
unfolding half_at product remainder carryless_product
half_there = refl

-- twice an element without one
pub twice_small : (a : ℕ) → a < 128 → product 2 a ≡ a * 2
unfolding half_at
twice_small a h = eqb-true _ _ (passes_below half_at 128 a half_there h)

-- a number is twice its half, and its lowest bit
halved : (b : ℕ) → bit_xor (b % 2) (b / 2 * 2) ≡ b
halved b =
    let blocks = xor_block 1 0 (b / 2) (b % 2) 0 (omega arith) (omega arith) in
    let tidy : bit_xor (b % 2) (b / 2 * 2) ≡ b / 2 * 2 + b % 2 = simp (zero-mul, add-zero, zero-add, xor_zero_r) at blocks in
    omega arith

pub product_by_halves : (a b : ℕ) → a < 256 → b < 256 → product a b ≡ bit_xor (product a (b % 2)) (product (product 2 a) (b / 2))
product_by_halves a b ha hb =
    ap (product a) (sym (halved b)) ∙ product_of_sum a (b % 2) (b / 2 * 2)
    ∙ ap (bit_xor (product a (b % 2)))
    (ap (product a) (sym (twice_small (b / 2) (omega arith)))
    ∙ sym (product_assoc a 2 (b / 2) ha (omega arith) (omega arith)) ∙ ap (λ (x : ℕ). product x (b / 2)) (product_comm a 2 ha (omega arith)))

-- one step, at an even and at an odd number
pub even_step : (s a b : ℕ) → a < 256 → b < 256 → b % 2 ≡ 0 → bit_xor s (product (product 2 a) (b / 2)) ≡ bit_xor s (product a b)
even_step s a b ha hb even =
    ap (bit_xor s)
    (sym (product_by_halves a b ha hb ∙ ap (λ (x : ℕ). bit_xor (product a x) (product (product 2 a) (b / 2))) even
    ∙ ap (λ (x : ℕ). bit_xor x (product (product 2 a) (b / 2))) (product-zero a) ∙ xor_zero_l (product (product 2 a) (b / 2))))

pub odd_step : (s a b : ℕ) → a < 256 → b < 256 → b % 2 ≡ 1 → bit_xor (bit_xor s a) (product (product 2 a) (b / 2)) ≡ bit_xor s (product a b)
odd_step s a b ha hb odd =
    xor_assoc s a (product (product 2 a) (b / 2))
    ∙ ap (bit_xor s)
    (sym (product_by_halves a b ha hb ∙ ap (λ (x : ℕ). bit_xor (product a x) (product (product 2 a) (b / 2))) odd
    ∙ ap (λ (x : ℕ). bit_xor x (product (product 2 a) (b / 2))) (times_one a ha)))
