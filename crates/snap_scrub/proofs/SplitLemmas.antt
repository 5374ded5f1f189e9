-- A list of numbers that is split round one of them, by keys: how many come before a number of the list.
use Rattle.std.proofs.Common.{◌≡◌, ◌≢◌, ℕ, ◌+◌, ◌-◌, ◌<◌, ◌≤◌, zero, suc, List, [], ◌∷◌, ◌++◌, length, get_or, Bool, true, false, cond, refl, sym, ap, ◌∙◌, inl, inr, arith}
use Rattle.std.specs.Prelude.{◌==◌, nat_lt, count_by}
use Rattle.std.specs.List.{Contains, IsDistinct}
use Rattle.std.specs.List.Sorted.{IsPermutation}
use Rattle.std.proofs.lemmas.Bool.{cases_lt, lt-ltb, le-ltb}
use Rattle.std.proofs.lemmas.Bool.Decides.{nat_tests}
use Rattle.std.proofs.lemmas.List.{get_or_append_left, get_or-append_right, get_or_default, length-append}
use Rattle.std.proofs.lemmas.List.Sorted.{IsPermutation-sym, Contains-permutation, sum_by-IsPermutation}
use Rattle.std.proofs.lemmas.List.Sums.{sum_by-append, sum_by-cons, count_by-le-length}
use Rattle.std.proofs.lemmas.Map.Keys.{IsDistinct-IsPermutation, apart_from_distinct}

-- one that passes counts one
abbrev counted : Bool → ℕ
counted t = cond t 1 0

-- how many pass where all do, where none does, and where one does not
count_all : (p : ℕ → Bool) (xs : List ℕ) → ((k d : ℕ) → k < length xs → p (get_or xs k d) ≡ true) → count_by p xs ≡ length xs
count_all p [] all = refl
count_all p (x ∷ xs) all =
    let rest : count_by p xs ≡ length xs = count_all p xs (λ k d below. all (suc k) d (omega arith)) in
    let here : counted (p x) ≡ 1 = ap counted (all 0 0 (omega arith)) in
    omega (arith, sum_by-cons (λ e. cond (p e) 1 0) x xs, here, rest)

count_none : (p : ℕ → Bool) (xs : List ℕ) → ((k d : ℕ) → k < length xs → p (get_or xs k d) ≡ false) → count_by p xs ≡ 0
count_none p [] none = refl
count_none p (x ∷ xs) none =
    let rest : count_by p xs ≡ 0 = count_none p xs (λ k d below. none (suc k) d (omega arith)) in
    let here : counted (p x) ≡ 0 = ap counted (none 0 0 (omega arith)) in
    omega (arith, sum_by-cons (λ e. cond (p e) 1 0) x xs, here, rest)

at_most_one : (t : Bool) → counted t ≤ 1
at_most_one true = omega arith
at_most_one false = omega arith

pub count_fewer : (p : ℕ → Bool) (xs : List ℕ) (k d : ℕ) → k < length xs → p (get_or xs k d) ≡ false → count_by p xs < length xs
count_fewer p [] k d below fails = absurd (omega arith)
count_fewer p (x ∷ xs) zero d below fails =
    let here : counted (p x) ≡ 0 = ap counted fails in
    omega (arith, sum_by-cons (λ e. cond (p e) 1 0) x xs, count_by-le-length p xs, here)
count_fewer p (x ∷ xs) (suc k) d below fails =
    omega (arith, sum_by-cons (λ e. cond (p e) 1 0) x xs, count_fewer p xs k d (omega arith) fails, at_most_one (p x))

-- numbers that differ
eq_flips : (a b : ℕ) → (a == b) ≡ (b == a)
eq_flips a b = grind (arith, nat_tests)

differ : (a b : ℕ) → (a == b) ≡ false → a ≢ b
differ a b apart = grind (arith, nat_tests)

-- A list without repeats, with keys that tell its numbers apart, in another order: no key of the front is greater than that of
-- the number behind it, and no key behind that is less.
pub record IsSplit (key : ℕ → ℕ) (xs front : List ℕ) (x : ℕ) (back : List ℕ) : Type 0 where
  pub moved : IsPermutation xs (front ++ x ∷ back)
  pub once : IsDistinct (λ a b. a == b) xs
  pub apart : (a b : ℕ) → Contains xs a → Contains xs b → key a ≡ key b → a ≡ b
  pub low : (k d : ℕ) → k < length front → key (get_or front k d) ≤ key x
  pub high : (k d : ℕ) → k < length back → key x ≤ key (get_or back k d)

module _ {key : ℕ → ℕ} {xs front back : List ℕ} {x : ℕ} (split : IsSplit key xs front x back) where
  back_in : (s : ℕ) → Contains (front ++ x ∷ back) s → Contains xs s
  back_in s there = Contains-permutation (front ++ x ∷ back) xs s (IsPermutation-sym xs (front ++ x ∷ back) split.moved) there

  long : length (front ++ x ∷ back) ≡ length front + suc (length back)
  long = length-append front (x ∷ back)

  -- the number at the seam
  seam : (d : ℕ) → get_or (front ++ x ∷ back) (length front) d ≡ x
  seam d = get_or-append_right front (x ∷ back) (length front) (length front) d refl (omega arith) ∙ ap (λ (n : ℕ). get_or (x ∷ back) n d) (let none : length front - length front ≡ 0 = omega arith in none)

  pub seam_in : Contains xs x
  seam_in = back_in x (length front, omega (arith, long), seam x)

  -- each key of the front is less
  below : (k d : ℕ) → k < length front → key (get_or front k d) < key x
  below k d within =
      let a = get_or front k d in
      let read : get_or (front ++ x ∷ back) k d ≡ a = get_or_append_left front (x ∷ back) d k within in
      let distinct = IsDistinct-IsPermutation (λ a b. a == b) eq_flips xs (front ++ x ∷ back) split.moved split.once in
      let differs : a ≢ x = λ same. differ _ _ (apart_from_distinct (λ a b. a == b) (front ++ x ∷ back) k (length front) d distinct within (omega (arith, long))) (read ∙ same ∙ sym (seam d)) in
      let a_in : Contains xs a = back_in a (k, omega (arith, long), get_or_append_left front (x ∷ back) a k within ∙ get_or_default front k a d within) in
      let keys : key a ≢ key x = λ same. differs (split.apart a x a_in seam_in same) in
      omega (arith, split.low k d within, keys)

  -- a number whose key is less than that of the seam stands in the front
  in_front : (s : ℕ) → key s < key x → Contains xs s → (k : ℕ) × (k < length front) × (get_or front k s ≡ s)
  in_front s less there =
      let held : Contains (front ++ x ∷ back) s = Contains-permutation xs (front ++ x ∷ back) s split.moved there in
      elim (cases_lt held.0 (length front)) [
        | inl within ↦ (held.0, within, sym (get_or_append_left front (x ∷ back) s held.0 within) ∙ held.2)
        | inr behind ↦
            let read : get_or (x ∷ back) (held.0 - length front) s ≡ s = sym (get_or-append_right front (x ∷ back) (length front) held.0 s refl behind) ∙ held.2 in
            absurd (not_behind (held.0 - length front) s less (omega (arith, long, held.1)) read)
      ]
    where
      not_behind : (n s : ℕ) → key s < key x → n < suc (length back) → get_or (x ∷ back) n s ≡ s → ⊥
      not_behind zero s less within read = let same : key x ≡ key s = ap key read in omega arith
      not_behind (suc n) s less within read =
          let same : key (get_or back n s) ≡ key s = ap key read in
          omega (arith, split.high n s (omega arith), same)

  -- how many come before a number of the list, by the parts
  parts : (s : ℕ) → count_by (λ e. nat_lt (key e) (key s)) xs ≡ count_by (λ e. nat_lt (key e) (key s)) front + (cond (nat_lt (key x) (key s)) 1 0 + count_by (λ e. nat_lt (key e) (key s)) back)
  parts s =
      sym (sum_by-IsPermutation (λ e. cond (nat_lt (key e) (key s)) 1 0) xs (front ++ x ∷ back) split.moved)
      ∙ sum_by-append (λ e. cond (nat_lt (key e) (key s)) 1 0) front (x ∷ back)
      ∙ ap (λ n. count_by (λ e. nat_lt (key e) (key s)) front + n) (sum_by-cons (λ e. cond (nat_lt (key e) (key s)) 1 0) x back)

  pub count_before : (s : ℕ) → Contains xs s → nat_lt (key s) (key x) ≡ nat_lt (count_by (λ e. nat_lt (key e) (key s)) xs) (length front)
  count_before s there =
      elim (cases_lt (key s) (key x)) [
        | inl less ↦
            let at = in_front s less there in
            let here : counted (nat_lt (key x) (key s)) ≡ 0 = ap counted (le-ltb (key x) (key s) (omega arith)) in
            let behind : count_by (λ e. nat_lt (key e) (key s)) back ≡ 0 = count_none (λ e. nat_lt (key e) (key s)) back (λ k d within. le-ltb (key (get_or back k d)) (key s) (omega (arith, split.high k d within))) in
            let itself : nat_lt (key (get_or front at.0 s)) (key s) ≡ false = le-ltb (key (get_or front at.0 s)) (key s) (let same : key (get_or front at.0 s) ≡ key s = ap key at.2 in omega arith) in
            let fewer : count_by (λ e. nat_lt (key e) (key s)) front < length front = count_fewer (λ e. nat_lt (key e) (key s)) front at.0 s at.1 itself in
            lt-ltb (key s) (key x) less ∙ sym (lt-ltb (count_by (λ e. nat_lt (key e) (key s)) xs) (length front) (omega (arith, parts s, here, behind, fewer)))
        | inr least ↦
            let all : count_by (λ e. nat_lt (key e) (key s)) front ≡ length front = count_all (λ e. nat_lt (key e) (key s)) front (λ k d within. lt-ltb (key (get_or front k d)) (key s) (omega (arith, below k d within))) in
            le-ltb (key s) (key x) least ∙ sym (le-ltb (count_by (λ e. nat_lt (key e) (key s)) xs) (length front) (omega (arith, parts s, all)))
      ]
