-- A byte is the sum of its two halves, so a product with it is the sum of two products.
use Rattle.std.proofs.Common.{◌≡◌, ℕ, ◌+◌, ◌*◌, ◌/◌, ◌%◌, ◌<◌, List, sym, ap, ◌∙◌, add-zero, zero-add, zero-mul, arith}
use Rattle.std.specs.Int.Bits.{bit_xor, xor_block, xor_zero_r}
use Rattle.gf256.specs.Field.{product}
use Rattle.gf256.specs.Halves.{AreHalves, half_entry, halves_sum}
use Rattle.gf256.proofs.ProductLemmas.{product_of_sum}

-- a number is the sum of its low four bits and the others
two_halves : (a : ℕ) → bit_xor (a % 16) (16 * (a / 16)) ≡ a
two_halves a =
    let turned : 16 * (a / 16) ≡ a / 16 * 16 = omega arith in
    let blocks = xor_block 4 0 (a / 16) (a % 16) 0 (omega arith) (omega arith) in
    let tidy : bit_xor (a % 16) (a / 16 * 16) ≡ a / 16 * 16 + a % 16 = simp (zero-mul, add-zero, zero-add, xor_zero_r) at blocks in
    ap (bit_xor (a % 16)) turned ∙ omega arith

-- the product with a number is the sum of those with its two halves
pub product_by_parts : (k a : ℕ) → bit_xor (product k (a % 16)) (product k (16 * (a / 16))) ≡ product k a
product_by_parts k a = sym (product_of_sum k (a % 16) (16 * (a / 16))) ∙ ap (product k) (two_halves a)

pub by_halves : (k a : ℕ) (tables : List (List ℕ)) → AreHalves k tables → a < 256 → halves_sum tables a ≡ product k a
by_halves k a tables halves h =
    ap (λ (x : ℕ). bit_xor x (half_entry tables 1 (a / 16))) (halves.low (a % 16) (omega arith))
    ∙ ap (bit_xor (product k (a % 16))) (halves.high (a / 16) (omega arith))
    ∙ product_by_parts k a
