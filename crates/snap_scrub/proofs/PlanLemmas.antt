-- What a percentage takes, by the place of the first stripe that it leaves.
use Rattle.std.proofs.Common.{◌≡◌, ℕ, ◌+◌, ◌-◌, ◌*◌, ◌^◌, ◌<◌, ◌≤◌, zero, suc, List, [], ◌∷◌, ◌++◌, length, get_or, Bool, true, false, cond, refl, sym, ap, ◌∙◌, subst, arith}
use Rattle.std.specs.Prelude.{◌==◌, ◌||◌, ◌&&◌, nat_lt, nat_le, count_by, filter}
use Rattle.std.specs.List.{All, AllPairs, Contains, IsDistinct, range_with_len}
use Rattle.std.proofs.lemmas.Bool.{ltb-true, ltb-false, lt-ltb, le-ltb}
use Rattle.std.proofs.lemmas.Bool.Decides.{nat_tests}
use Rattle.std.proofs.lemmas.List.{map-id, append-nil}
use Rattle.std.proofs.lemmas.List.Kept.{AllPairs-filter}
use Rattle.std.proofs.lemmas.List.Elements.{All-filter, All-nil, All-cons, filter-append}
use Rattle.std.proofs.lemmas.List.FromFn.{length-range_with_len, get_or-range_with_len, map-range_with_len_more}
use Rattle.std.proofs.lemmas.List.Sums.{sum_by-cons}
use Rattle.std.proofs.lemmas.Map.Keys.{IsDistinct-from_apart}
use Rattle.snap_scrub.proofs.OrderLemmas.{before_in_order, old_in_order}
use Rattle.snap_scrub.proofs.SplitLemmas.{IsSplit, count_before, count_fewer, seam_in}

-- what passes stays in a filter, and what a filter keeps passes
in_filter_at : (p : ℕ → Bool) (xs : List ℕ) (k s : ℕ) → k < length xs → get_or xs k s ≡ s → p s ≡ true → Contains (filter p xs) s
in_filter_at p [] k s within read passes = absurd (omega arith)
in_filter_at p (x ∷ xs) zero s within read passes =
    let here : true ≡ p x = sym (ap p read ∙ passes) in
    subst (λ (t : Bool). Contains (cond t (x ∷ filter p xs) (filter p xs)) s) here (0, omega arith, read)
in_filter_at p (x ∷ xs) (suc k) s within read passes =
    later (p x) (in_filter_at p xs k s (omega arith) read passes)
  where
    later : (t : Bool) → Contains (filter p xs) s → Contains (cond t (x ∷ filter p xs) (filter p xs)) s
    later true there = (suc there.0, omega (arith, there.1), there.2)
    later false there = there

pub in_filter : (p : ℕ → Bool) (xs : List ℕ) (s : ℕ) → Contains xs s → p s ≡ true → Contains (filter p xs) s
in_filter p xs s there passes = in_filter_at p xs there.0 s there.1 there.2 passes

passes_at : (p : ℕ → Bool) (x : ℕ) (rest : List ℕ) (t : Bool) → p x ≡ t → All (λ s. p s ≡ true) rest → All (λ s. p s ≡ true) (cond t (x ∷ rest) rest)
passes_at p x rest true is all = All-cons (λ s. p s ≡ true) x rest is all
passes_at p x rest false is all = all

pub all_pass : (p : ℕ → Bool) (xs : List ℕ) → All (λ s. p s ≡ true) (filter p xs)
all_pass p [] = All-nil (λ s. p s ≡ true)
all_pass p (x ∷ xs) = passes_at p x (filter p xs) (p x) refl (all_pass p xs)

-- two tests that agree on the elements of a list
pub filter_agrees : (p q : ℕ → Bool) (xs : List ℕ) → ((k d : ℕ) → k < length xs → p (get_or xs k d) ≡ q (get_or xs k d)) → filter p xs ≡ filter q xs
filter_agrees p q [] same = refl
filter_agrees p q (x ∷ xs) same =
    ap (λ (t : Bool). cond t (x ∷ filter p xs) (filter p xs)) (same 0 0 (omega arith))
    ∙ ap (λ (rest : List ℕ). cond (q x) (x ∷ rest) rest) (filter_agrees p q xs (λ k d within. same (suc k) d (omega arith)))

pub count_agrees : (p q : ℕ → Bool) (xs : List ℕ) → ((k d : ℕ) → k < length xs → p (get_or xs k d) ≡ q (get_or xs k d)) → count_by p xs ≡ count_by q xs
count_agrees p q [] same = refl
count_agrees p q (x ∷ xs) same =
    sum_by-cons (λ e. cond (p e) 1 0) x xs
    ∙ ap (λ (t : Bool). cond t 1 0 + count_by p xs) (same 0 0 (omega arith))
    ∙ ap (λ (n : ℕ). cond (q x) 1 0 + n) (count_agrees p q xs (λ k d within. same (suc k) d (omega arith)))
    ∙ sym (sum_by-cons (λ e. cond (q e) 1 0) x xs)

-- a filter of the numbers up to one: no number twice, and each is below
rising : (n : ℕ) → AllPairs (λ a b. a < b) (range_with_len 0 n)
rising n i j d less within =
    let long : length (range_with_len 0 n) ≡ n = length-range_with_len 0 n in
    let at_i : get_or (range_with_len 0 n) i d ≡ 0 + i = get_or-range_with_len 0 n i d (omega arith) in
    let at_j : get_or (range_with_len 0 n) j d ≡ 0 + j = get_or-range_with_len 0 n j d (omega arith) in
    omega arith

unequal : (a b : ℕ) → a < b → (a == b) ≡ false
unequal a b less = grind (arith, nat_tests)

pub distinct_numbers : (p q : ℕ → Bool) (n : ℕ) → IsDistinct (λ a b. a == b) (filter q (filter p (range_with_len 0 n)))
distinct_numbers p q n =
    let pairs : AllPairs (λ a b. a < b) (filter q (filter p (range_with_len 0 n))) = AllPairs-filter (λ a b. a < b) q (filter p (range_with_len 0 n)) (AllPairs-filter (λ a b. a < b) p (range_with_len 0 n) (rising n)) in
    IsDistinct-from_apart (λ a b. a == b) (filter q (filter p (range_with_len 0 n))) (λ i j d less within. unequal _ _ (pairs i j d less within))

pub below_all : (p : ℕ → Bool) (n : ℕ) → All (λ s. s < n) (filter p (range_with_len 0 n))
below_all p n =
    All-filter p (λ s. s < n) (range_with_len 0 n)
    (λ k d within.
    let long : length (range_with_len 0 n) ≡ n = length-range_with_len 0 n in
    let at : get_or (range_with_len 0 n) k d ≡ 0 + k = get_or-range_with_len 0 n k d (omega arith) in
    omega arith)

-- the place of a number by its last check, and the order by last check and number
abbrev order : (ℕ → ℕ) → ℕ → ℕ
order last s = last s * 2 ^ 32 + s

abbrev before : (ℕ → ℕ) → ℕ → ℕ → Bool
before last one other = nat_lt (last one) (last other) || (last one == last other && nat_lt one other)

abbrev old_by : (ℕ → ℕ) → ℕ → ℕ → ℕ → Bool
old_by last days now s = nat_le (last s + 86400 * days) now

-- a number is old enough, and among the first so many of the old ones of a list
abbrev oldest : (ℕ → ℕ) → ℕ → ℕ → ℕ → List ℕ → ℕ → Bool
oldest last days now share cs s = old_by last days now s && nat_lt (count_by (λ e. before last e s) (filter (old_by last days now) cs)) share

not_itself : (l e : ℕ) → (nat_lt l l || (l == l && nat_lt e e)) ≡ false
not_itself l e = grind (arith, nat_tests)

module _ (last : ℕ → ℕ) (days now share : ℕ) (cs : List ℕ) (fit : All (λ s. s < 2 ^ 32) cs) where
  old_fit : All (λ s. s < 2 ^ 32) (filter (old_by last days now) cs)
  old_fit = All-filter (old_by last days now) (λ s. s < 2 ^ 32) cs fit

  fits : (s : ℕ) → Contains cs s → s < 2 ^ 32
  fits s there = subst (λ (n : ℕ). n < 2 ^ 32) there.2 (fit there.0 s there.1)

  -- the count by the order of last check and number is that by places
  counted_by : (s : ℕ) → s < 2 ^ 32 → count_by (λ e. before last e s) (filter (old_by last days now) cs) ≡ count_by (λ e. nat_lt (order last e) (order last s)) (filter (old_by last days now) cs)
  counted_by s small = count_agrees (λ e. before last e s) (λ e. nat_lt (order last e) (order last s)) (filter (old_by last days now) cs)
      (λ k d within. before_in_order (last (get_or (filter (old_by last days now) cs) k d)) (last s) (get_or (filter (old_by last days now) cs) k d) s (old_fit k d within) small)

  -- places tell numbers apart
  pub apart_by : (a b : ℕ) → Contains (filter (old_by last days now) cs) a → Contains (filter (old_by last days now) cs) b → order last a ≡ order last b → a ≡ b
  apart_by a b a_in b_in same =
      let small_a : a < 2 ^ 32 = subst (λ (n : ℕ). n < 2 ^ 32) a_in.2 (old_fit a_in.0 a a_in.1) in
      let small_b : b < 2 ^ 32 = subst (λ (n : ℕ). n < 2 ^ 32) b_in.2 (old_fit b_in.0 b b_in.1) in
      omega arith

  pub old_is : (s : ℕ) → s < 2 ^ 32 → old_by last days now s ≡ nat_lt (order last s) (((now + 1) - 86400 * days) * 2 ^ 32)
  old_is s small = old_in_order (last s) s days now small

  -- where there are more old ones than are taken: those before the first that is left
  pub before_first : (front back : List ℕ) (x : ℕ) → IsSplit (order last) (filter (old_by last days now) cs) front x back → length front ≡ share → (s : ℕ) → Contains cs s → nat_lt (order last s) (order last x) ≡ oldest last days now share cs s
  before_first front back x split long s there =
      let small : s < 2 ^ 32 = fits s there in
      by_age (old_by last days now s) refl small
    where
      by_age : (t : Bool) → old_by last days now s ≡ t → s < 2 ^ 32 → nat_lt (order last s) (order last x) ≡ (t && nat_lt (count_by (λ e. before last e s) (filter (old_by last days now) cs)) share)
      by_age true is small =
          count_before split s (in_filter (old_by last days now) cs s there is)
          ∙ ap (λ (n : ℕ). nat_lt (count_by (λ e. nat_lt (order last e) (order last s)) (filter (old_by last days now) cs)) n) long
          ∙ ap (λ (n : ℕ). nat_lt n share) (sym (counted_by s small))
      by_age false is small =
          let x_in = seam_in split in
          let x_old : old_by last days now x ≡ true = ap (old_by last days now) (sym x_in.2) ∙ all_pass (old_by last days now) cs x_in.0 x x_in.1 in
          let small_x : x < 2 ^ 32 = subst (λ (n : ℕ). n < 2 ^ 32) x_in.2 (old_fit x_in.0 x x_in.1) in
          let x_less = ltb-true _ _ (sym (old_is x small_x) ∙ x_old) in
          let s_least = ltb-false _ _ (sym (old_is s small) ∙ is) in
          le-ltb (order last s) (order last x) (omega (arith, x_less, s_least))

  -- where all old ones are taken: those before the first recent place
  pub before_recent : length (filter (old_by last days now) cs) ≤ share → (s : ℕ) → Contains cs s → nat_lt (order last s) (((now + 1) - 86400 * days) * 2 ^ 32) ≡ oldest last days now share cs s
  before_recent few s there =
      let small : s < 2 ^ 32 = fits s there in
      sym (old_is s small) ∙ by_age (old_by last days now s) refl
    where
      by_age : (t : Bool) → old_by last days now s ≡ t → t ≡ (t && nat_lt (count_by (λ e. before last e s) (filter (old_by last days now) cs)) share)
      by_age true is =
          let held = in_filter (old_by last days now) cs s there is in
          let itself : before last (get_or (filter (old_by last days now) cs) held.0 s) s ≡ false = ap (λ (e : ℕ). before last e s) held.2 ∙ not_itself (last s) s in
          let fewer = count_fewer (λ e. before last e s) (filter (old_by last days now) cs) held.0 s held.1 itself in
          sym (lt-ltb _ share (omega (arith, fewer)))
      by_age false is = refl

-- one more number of a filter's list
pub range_more : (n : ℕ) → range_with_len 0 (n + 1) ≡ range_with_len 0 n ++ n ∷ []
range_more n = sym (map-id (range_with_len 0 (n + 1))) ∙ map-range_with_len_more (λ (k : ℕ). k) 0 n n (omega arith) ∙ ap (λ (ks : List ℕ). ks ++ n ∷ []) (map-id (range_with_len 0 n))

pub kept_more : (p : ℕ → Bool) (n : ℕ) (kept : List ℕ) → kept ≡ filter p (range_with_len 0 n) → p n ≡ true → kept ++ n ∷ [] ≡ filter p (range_with_len 0 (n + 1))
kept_more p n kept so_far here =
    sym (ap (filter p) (range_more n)
    ∙ filter-append p (range_with_len 0 n) (n ∷ [])
    ∙ ap (λ (t : Bool). filter p (range_with_len 0 n) ++ cond t (n ∷ []) []) here
    ∙ ap (λ (ks : List ℕ). ks ++ n ∷ []) (sym so_far))

pub left_out : (p : ℕ → Bool) (n : ℕ) (kept : List ℕ) → kept ≡ filter p (range_with_len 0 n) → p n ≡ false → kept ≡ filter p (range_with_len 0 (n + 1))
left_out p n kept so_far here =
    sym (ap (filter p) (range_more n)
    ∙ filter-append p (range_with_len 0 n) (n ∷ [])
    ∙ ap (λ (t : Bool). filter p (range_with_len 0 n) ++ cond t (n ∷ []) []) here
    ∙ append-nil (filter p (range_with_len 0 n))
    ∙ sym so_far)
