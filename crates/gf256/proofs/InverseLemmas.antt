-- Each element but 0 is a power of 2, so it has an inverse, and only one.
use Rattle.std.proofs.Common.{◌≡◌, ℕ, zero, suc, ◌+◌, ◌-◌, ◌%◌, ◌<◌, ◌≤◌, Bool, true, false, cond, eqb, get_or, refl, sym, ap, ◌∙◌, inl, inr, arith}
use Rattle.std.proofs.lemmas.Bool.{eqb-true, eq-eqb, cases_lt}
use Rattle.gf256.specs.declared.tables.TheConstants.{LOGARITHMS}
use Rattle.gf256.specs.Field.{product, power, first_from, inverse, quotient}
use Rattle.gf256.proofs.ProductLemmas.{product_assoc, product_comm, product_lt, one_times, product-zero, zero_times}
use Rattle.gf256.proofs.PowerLemmas.{power_lt, product_of_powers, power_of_order, power_mod}
use Rattle.gf256.proofs.TableLemmas.{log_lt, power_of_log, order_of_two}

-- where some number passes, so does the first
first_passes : (test : ℕ → Bool) (k n c : ℕ) → k ≤ c → c < k + n → test c ≡ true → (test (first_from test k n) ≡ true) × (first_from test k n < k + n)
first_passes test k zero c low high h = absurd (omega arith)
first_passes test k (suc n) c low high h =
    (elim (test k) as (λ (here : Bool). test k ≡ here → (test (cond here k (first_from test (k + 1) n)) ≡ true) × (cond here k (first_from test (k + 1) n) < k + suc n)) [
      | true ↦ λ passes. (passes, omega arith)
      | false ↦ λ fails.
          elim (cases_lt k c) [
            | inl later ↦
                let rest = first_passes test (k + 1) n c (omega arith) (omega arith) h in
                (rest.0, omega arith)
            | inr here ↦
                let same : c ≡ k = omega arith in
                let both : true ≡ false = sym h ∙ ap test same ∙ fails in
                cc
          ]
    ]) refl

-- the inverse of 2 to the n is 2 to the 255 - n
pub inverse_power : (a n : ℕ) → n < 255 → power n ≡ a → product a (power (255 - n)) ≡ 1
inverse_power a n below is_power =
    let whole : n + (255 - n) ≡ 255 = omega arith in
    ap (λ (x : ℕ). product x (power (255 - n))) (sym is_power) ∙ product_of_powers n (255 - n) ∙ ap power whole ∙ power_of_order

inverse_found : (a : ℕ) → 0 < a → a < 256 → (eqb (product a (inverse a)) 1 ≡ true) × (inverse a < 0 + 256)
unfolding inverse
inverse_found a some within =
    let there : power (255 - get_or LOGARITHMS a 0) < 0 + 256 = power_lt (255 - get_or LOGARITHMS a 0) in
    first_passes (λ b. eqb (product a b) 1) 0 256 (power (255 - get_or LOGARITHMS a 0)) (omega arith) there
    (eq-eqb _ _ (inverse_power a (get_or LOGARITHMS a 0) (log_lt a some within) (power_of_log a some within)))

pub product_inverse : (a : ℕ) → 0 < a → a < 256 → product a (inverse a) ≡ 1
product_inverse a some within = eqb-true _ _ (inverse_found a some within).0

pub inverse_lt : (a : ℕ) → 0 < a → a < 256 → inverse a < 256
inverse_lt a some within = (inverse_found a some within).1

pub inverse_times : (a : ℕ) → 0 < a → a < 256 → product (inverse a) a ≡ 1
inverse_times a some within = product_comm (inverse a) a (inverse_lt a some within) within ∙ product_inverse a some within

pub times_one : (a : ℕ) → a < 256 → product a 1 ≡ a
times_one a within = product_comm a 1 within (omega arith) ∙ one_times a within

-- a factor and its inverse cancel
pub cancel_inverse : (a b : ℕ) → 0 < a → a < 256 → b < 256 → product (inverse a) (product a b) ≡ b
cancel_inverse a b some ha hb =
    sym (product_assoc (inverse a) a b (inverse_lt a some ha) ha hb) ∙ ap (λ (x : ℕ). product x b) (inverse_times a some ha) ∙ one_times b hb

-- a product is 0 only where a factor is
pub no_zero_factor : (a b : ℕ) → 0 < a → a < 256 → b < 256 → product a b ≡ 0 → b ≡ 0
no_zero_factor a b some ha hb none = sym (cancel_inverse a b some ha hb) ∙ ap (product (inverse a)) none ∙ product-zero (inverse a)

-- a factor that isn't 0 may be taken away on both sides
pub cancel_left : (a b c : ℕ) → 0 < a → a < 256 → b < 256 → c < 256 → product a b ≡ product a c → b ≡ c
cancel_left a b c some ha hb hc same =
    sym (cancel_inverse a b some ha hb) ∙ ap (product (inverse a)) same ∙ cancel_inverse a c some ha hc

pub inverse_unique : (a b : ℕ) → 0 < a → a < 256 → b < 256 → product a b ≡ 1 → b ≡ inverse a
inverse_unique a b some ha hb one = cancel_left a b (inverse a) some ha hb (inverse_lt a some ha) (one ∙ sym (product_inverse a some ha))

pub quotient_lt : (a b : ℕ) → a < 256 → 0 < b → b < 256 → quotient a b < 256
unfolding quotient
quotient_lt a b ha some hb = product_lt a (inverse b) ha (inverse_lt b some hb)

pub quotient_times : (a b : ℕ) → a < 256 → 0 < b → b < 256 → product (quotient a b) b ≡ a
unfolding quotient
quotient_times a b ha some hb =
    product_assoc a (inverse b) b ha (inverse_lt b some hb) hb ∙ ap (product a) (inverse_times b some hb) ∙ times_one a ha

pub quotient_unique : (a b c : ℕ) → a < 256 → 0 < b → b < 256 → c < 256 → product c b ≡ a → c ≡ quotient a b
quotient_unique a b c ha some hb hc same =
    cancel_left b c (quotient a b) some hb hc (quotient_lt a b ha some hb)
    (product_comm b c hb hc ∙ same ∙ sym (quotient_times a b ha some hb) ∙ product_comm (quotient a b) b (quotient_lt a b ha some hb) hb)

-- the product of two elements that aren't 0 isn't 0
pub product_positive : (a b : ℕ) → 0 < a → a < 256 → 0 < b → b < 256 → 0 < product a b
product_positive a b some_a ha some_b hb =
    elim (cases_lt 0 (product a b)) [
      | inl positive ↦ positive
      | inr none ↦
          let zero_factor : b ≡ 0 = no_zero_factor a b some_a ha hb (omega arith) in
          omega arith
    ]

pub inverse_positive : (a : ℕ) → 0 < a → a < 256 → 0 < inverse a
inverse_positive a some within =
    elim (cases_lt 0 (inverse a)) [
      | inl positive ↦ positive
      | inr none ↦
          let zero : inverse a ≡ 0 = omega arith in
          let same : 1 ≡ product a 0 = sym (product_inverse a some within) ∙ ap (product a) zero in
          let none : product a 0 ≡ 0 = product-zero a in
          omega arith
    ]

-- ---- the powers of 2 aren't 0, and differ below 255

pub power_positive : (n : ℕ) → 0 < power n
power_positive n =
    elim (cases_lt 0 (power n)) [
      | inl positive ↦ positive
      | inr none ↦
          let whole : n % 255 + (255 - n % 255) ≡ 255 = omega arith in
          let one : product (power n) (power (255 - n % 255)) ≡ 1 =
          ap (λ (x : ℕ). product x (power (255 - n % 255))) (sym (power_mod n)) ∙ product_of_powers (n % 255) (255 - n % 255)
          ∙ ap power whole ∙ power_of_order in
          let zero : power n ≡ 0 = omega arith in
          let nothing : product (power n) (power (255 - n % 255)) ≡ 0 =
          ap (λ (x : ℕ). product x (power (255 - n % 255))) zero ∙ zero_times (power (255 - n % 255)) in
          omega arith
    ]

-- a power that comes again within 255 steps
gap_is_none : (m k : ℕ) → k < 255 → power (m + k) ≡ power m → k ≡ 0
gap_is_none m k within same =
    let one : power k ≡ 1 =
    cancel_left (power m) (power k) 1 (power_positive m) (power_lt m) (power_lt k) (omega arith)
    (product_of_powers m k ∙ same ∙ sym (times_one (power m) (power_lt m))) in
    let whole : k % 255 ≡ 0 = (order_of_two k).0 one in
    omega arith

pub powers_apart : (m n : ℕ) → m < 255 → n < 255 → power m ≡ power n → m ≡ n
powers_apart m n hm hn same =
    elim (cases_lt m n) [
      | inl less ↦
          let up : m + (n - m) ≡ n = omega arith in
          let none : n - m ≡ 0 = gap_is_none m (n - m) (omega arith) (ap power up ∙ sym same) in
          omega arith
      | inr more ↦
          let up : n + (m - n) ≡ m = omega arith in
          let none : m - n ≡ 0 = gap_is_none n (m - n) (omega arith) (ap power up ∙ same) in
          omega arith
    ]
