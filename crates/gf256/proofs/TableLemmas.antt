-- The two tables hold the powers of 2 and the logarithms, which is computed.
use Rattle.std.proofs.Common.{◌≡◌, ◌↔◌, ℕ, zero, suc, ◌+◌, ◌%◌, ◌<◌, Bool, true, false, cond, not, eqb, ltb, List, [], ◌∷◌, length, get_or, refl, sym, ap, ◌∙◌, add-zero, zero-add, arith}
use Rattle.std.proofs.lemmas.Bool.{eqb-true, eq-eqb, ltb-true}
use Rattle.gf256.specs.declared.tables.TheConstants.{POWERS, LOGARITHMS}
use Rattle.gf256.specs.Field.{remainder, carryless_product, product, power}
use Rattle.gf256.proofs.Tests.{all_below, passes_below, both_true}
use Rattle.gf256.proofs.PowerLemmas.{power_mod}

-- the list goes on as the powers of 2 do from p on
doubles_from : ℕ → List ℕ → Bool
doubles_from p [] = true
doubles_from p (x ∷ xs) = cond (eqb x p) (doubles_from (product 2 p) xs) false

doubles_at : (n i : ℕ) (xs : List ℕ) → doubles_from (power n) xs ≡ true → i < length xs → get_or xs i 0 ≡ power (n + i)
unfolding doubles_from power
doubles_at n i [] h within = absurd (omega arith)
doubles_at n zero (x ∷ xs) h within =
    eqb-true x (power n) (both_true (eqb x (power n)) (doubles_from (product 2 (power n)) xs) h).0 ∙ ap power (sym (add-zero n))
doubles_at n (suc i) (x ∷ xs) h within =
    let next : suc n + i ≡ n + suc i = omega arith in
    doubles_at (suc n) i xs (both_true (eqb x (power n)) (doubles_from (product 2 (power n)) xs) h).1 (omega arith) ∙ ap power next

powers_double : doubles_from 1 POWERS ≡ true
unfolding doubles_from product remainder carryless_product
powers_double = refl

pub powers_at : (i : ℕ) → i < 510 → get_or POWERS i 0 ≡ power i
unfolding power
powers_at i h = doubles_at 0 i POWERS powers_double h ∙ ap power (zero-add i)

log_at : ℕ → Bool
log_at zero = true
log_at (suc a) = cond (ltb (get_or LOGARITHMS (suc a) 0) 255) (eqb (get_or POWERS (get_or LOGARITHMS (suc a) 0) 0) (suc a)) false

logs_there : all_below log_at 256 ≡ true
unfolding log_at
logs_there = refl

pub log_lt : (a : ℕ) → 0 < a → a < 256 → get_or LOGARITHMS a 0 < 255
unfolding log_at
log_lt zero h within = absurd (omega arith)
log_lt (suc a) h within = ltb-true _ _ (both_true _ _ (passes_below log_at 256 (suc a) logs_there within)).0

pub power_of_log : (a : ℕ) → 0 < a → a < 256 → power (get_or LOGARITHMS a 0) ≡ a
unfolding log_at
power_of_log zero h within = absurd (omega arith)
power_of_log (suc a) h within =
    let below : get_or LOGARITHMS (suc a) 0 < 255 = log_lt (suc a) h within in
    sym (powers_at (get_or LOGARITHMS (suc a) 0) (omega arith)) ∙ eqb-true _ _ (both_true _ _ (passes_below log_at 256 (suc a) logs_there within)).1

-- ---- the order of 2

one_again_at : ℕ → Bool
one_again_at zero = true
one_again_at (suc n) = not (eqb (get_or POWERS (suc n) 0) 1)

one_first : all_below one_again_at 255 ≡ true
unfolding one_again_at
one_first = refl

-- no power of 2 below 255 is 1 but the first
one_only_at_zero : (n : ℕ) → n < 255 → power n ≡ 1 → n ≡ 0
unfolding one_again_at
one_only_at_zero zero within one = refl
one_only_at_zero (suc n) within one =
    let again : eqb (get_or POWERS (suc n) 0) 1 ≡ true = eq-eqb _ _ (powers_at (suc n) (omega arith) ∙ one) in
    let never : not (eqb (get_or POWERS (suc n) 0) 1) ≡ true = passes_below one_again_at 255 (suc n) one_first within in
    let both : false ≡ true = sym (ap not again) ∙ never in
    cc

pub order_of_two : (n : ℕ) → (power n ≡ 1) ↔ (n % 255 ≡ 0)
unfolding power
order_of_two n =
    (λ one. one_only_at_zero (n % 255) (omega arith) (power_mod n ∙ one), λ whole. sym (power_mod n) ∙ ap power whole)
