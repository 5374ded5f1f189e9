-- The numbers below a bound that a list does not hold.
use Rattle.std.proofs.Common.{◌≡◌, ◌≢◌, ℕ, ◌+◌, ◌-◌, ◌<◌, ◌==◌, zero, suc, List, [], ◌∷◌, Bool, true, false, ltb, cond, length, All, count_by, arith, refl, ◌∙◌, ap, subst, add-one}
use Rattle.std.proofs.lemmas.Bool.{lt-ltb, le-ltb}
use Rattle.std.proofs.lemmas.Bool.Decides.{Decides-eqb, nat_tests}
use Rattle.std.proofs.lemmas.List.Elements.{All-head, All-tail}
use Rattle.std.proofs.lemmas.Map.Keys.{IsDistinct-head, IsDistinct-tail}
use Rattle.std.proofs.lemmas.Map.Made.{IsDistinct-from_AllPairs}
use Rattle.std.specs.List.{AllByRecursion, AllPairs, IsDistinct, list_any, range_with_len}
use Rattle.snap_report.specs.StatusText.{is_unused}
use Rattle.snap_report.proofs.TallyLemmas.{count_more}
use Rattle.snap_report.proofs.StripesLemmas.{range_more}

abbrev free_below : List ℕ → ℕ → ℕ
free_below used n = count_by (is_unused used) (range_with_len 0 n)

-- one number more
free_more : (used : List ℕ) (n : ℕ) → free_below used (n + 1) ≡ free_below used n + cond (is_unused used n) 1 0
free_more used n = ap (count_by (is_unused used)) (range_more n) ∙ count_more (is_unused used) (range_with_len 0 n) n

-- where nothing is used
all_free : (n : ℕ) → free_below [] n ≡ n
all_free zero = refl
all_free (suc n) = subst (λ m. free_below [] m ≡ m) (add-one n) (free_more [] n ∙ omega (arith, all_free n))

none_is : (p : ℕ) (used : List ℕ) → AllByRecursion (λ y. (p == y) ≡ false) used → list_any (λ y. p == y) used ≡ false
none_is p [] each = refl
none_is p (y ∷ ys) each = rw each.0 (none_is p ys each.1)

next_below : (p n : ℕ) → (n == p) ≡ false → ltb p (n + 1) ≡ ltb p n
next_below p n other = grind (arith, nat_tests)

-- what one number more in the list changes at a number, by whether it is that one
one_step : (p n before after : ℕ) (used : List ℕ) (same : Bool) → (n == p) ≡ same → list_any (λ y. p == y) used ≡ false → after + cond (ltb p n) 1 0 ≡ before
    → (after + cond (is_unused (p ∷ used) n) 1 0) + cond (ltb p (n + 1)) 1 0 ≡ before + cond (is_unused used n) 1 0
one_step p n before after used true is free so_far =
    let n_is : n ≡ p = (Decides-eqb n p).0 is in
    let not_now : is_unused (p ∷ used) n ≡ false = rw is refl in
    let before_free : is_unused used n ≡ true = rw n_is (rw free refl) in
    let not_yet : ltb p n ≡ false = le-ltb p n (omega (arith, n_is)) in
    let now_below : ltb p (n + 1) ≡ true = lt-ltb p (n + 1) (omega (arith, n_is)) in
    rw (not_now, before_free, now_below) (omega (arith, rw not_yet at so_far))
one_step p n before after used false is free so_far =
    let as_before : is_unused (p ∷ used) n ≡ is_unused used n = rw is refl in
    let below : ltb p (n + 1) ≡ ltb p n = next_below p n is in
    rw (as_before, below) (omega (arith, so_far))

-- a number below the bound that the list does not hold is one free number less
one_used : (p n : ℕ) (used : List ℕ) → list_any (λ y. p == y) used ≡ false → free_below (p ∷ used) n + cond (ltb p n) 1 0 ≡ free_below used n
one_used p zero used free = rw (le-ltb p 0 (omega arith)) refl
one_used p (suc n) used free =
    subst (λ m. free_below (p ∷ used) m + cond (ltb p m) 1 0 ≡ free_below used m) (add-one n)
    (rw (free_more (p ∷ used) n, free_more used n) (one_step p n (free_below used n) (free_below (p ∷ used) n) used (n == p) refl free (one_used p n used free)))

-- the used numbers are distinct and below the bound
pub free_and_used : (used : List ℕ) (n : ℕ) → All (λ p. p < n) used → IsDistinct ◌==◌ used → free_below used n + length used ≡ n
free_and_used [] n below apart = omega (arith, all_free n)
free_and_used (p ∷ ps) n below apart =
    let rest = free_and_used ps n (All-tail (λ p. p < n) p ps below) (IsDistinct-tail ◌==◌ p ps apart) in
    let one = one_used p n ps (none_is p ps (IsDistinct-head ◌==◌ p ps apart)) in
    let here : p < n = All-head (λ p. p < n) p ps below in
    omega (arith, rest, rw (lt-ltb p n here) at one)

pub free_is : (used : List ℕ) (n : ℕ) → All (λ p. p < n) used → AllPairs (λ a b. a ≢ b) used → n - length used ≡ free_below used n
free_is used n below apart = omega (arith, free_and_used used n below (IsDistinct-from_AllPairs Decides-eqb used apart))
