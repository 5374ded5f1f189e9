-- The powers of 2: they multiply by adding exponents, and begin again after 255.
use Rattle.std.proofs.Common.{◌≡◌, ℕ, zero, suc, ◌+◌, ◌*◌, ◌/◌, ◌%◌, ◌<◌, refl, sym, ap, ◌∙◌, zero-add, suc-add, arith}
use Rattle.gf256.specs.Field.{remainder, carryless_product, product, power}
use Rattle.gf256.proofs.ProductLemmas.{product_assoc, product_lt, one_times}

pub power_lt : (n : ℕ) → power n < 256
unfolding power
power_lt zero = omega arith
power_lt (suc n) = product_lt 2 (power n) (omega arith) (power_lt n)

pub product_of_powers : (i j : ℕ) → product (power i) (power j) ≡ power (i + j)
unfolding power
product_of_powers zero j = one_times (power j) (power_lt j) ∙ ap power (sym (zero-add j))
product_of_powers (suc i) j =
    product_assoc 2 (power i) (power j) (omega arith) (power_lt i) (power_lt j)
    ∙ ap (product 2) (product_of_powers i j) ∙ ap power (sym (suc-add i j))

pub power_of_order : power 255 ≡ 1
unfolding power product remainder carryless_product
power_of_order = refl

power_of_rounds : (q r : ℕ) → power (q * 255 + r) ≡ power r
power_of_rounds zero r = let same : 0 * 255 + r ≡ r = omega arith in ap power same
power_of_rounds (suc q) r =
    let same : suc q * 255 + r ≡ 255 + (q * 255 + r) = omega arith in
    ap power same ∙ sym (product_of_powers 255 (q * 255 + r)) ∙ ap (λ (x : ℕ). product x (power (q * 255 + r))) power_of_order
    ∙ one_times (power (q * 255 + r)) (power_lt (q * 255 + r)) ∙ power_of_rounds q r

pub power_mod : (n : ℕ) → power (n % 255) ≡ power n
power_mod n = let parts : n / 255 * 255 + n % 255 ≡ n = omega arith in sym (power_of_rounds (n / 255) (n % 255)) ∙ ap power parts
