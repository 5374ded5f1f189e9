-- The choices of so many levels are the parts of their list that have so many.
use Rattle.std.proofs.Common.{◌≡◌, ◌≢◌, ℕ, zero, suc, ◌<◌, ◌≤◌, Bool, true, false, List, [], ◌∷◌, ◌++◌, ◌||◌, eqb, inl, inr, length, get_or, map, refl, sym, ap, ◌∙◌, arith}
use Rattle.std.specs.List.{All, IsDistinct, list_any}
use Rattle.std.proofs.lemmas.Bool.{eqb-true, false≢true}
use Rattle.std.proofs.lemmas.Bool.Decides.{eqb_tells}
use Rattle.std.proofs.lemmas.List.Elements.{All-nil, All-cons, All-head, All-tail, All-append, All-map, All-weaker, All-from_get_or, recursion_from_All}
use Rattle.std.proofs.lemmas.Map.Steps.{length-le_from_distinct_below}
use Rattle.cauchy.specs.System.{AreDistinctBelow, IsChoice}
use Rattle.stripe_examiner.specs.Search.{choices}

-- some of the elements, in their order
pub data IsSublist : List ℕ → List ℕ → Type 0 where
  nothing : (xs : List ℕ) → IsSublist [] xs
  with_first : (x : ℕ) {part xs : List ℕ} → IsSublist part xs → IsSublist (x ∷ part) (x ∷ xs)
  without : (x : ℕ) {part xs : List ℕ} → IsSublist part xs → IsSublist part (x ∷ xs)

-- so many of the elements
abbrev pub HasSome : ℕ → List ℕ → List ℕ → Type 0
HasSome m levels choice = (length choice ≡ m) × IsSublist choice levels

pub choices_sublists : (m : ℕ) (levels : List ℕ) → All (HasSome m levels) (choices m levels)
choices_sublists zero levels = All-cons (HasSome 0 levels) [] [] (refl, nothing levels) (All-nil (HasSome 0 levels))
choices_sublists (suc m) [] = All-nil (HasSome (suc m) [])
choices_sublists (suc m) (level ∷ levels) =
    let P : List ℕ → Type 0 = HasSome (suc m) (level ∷ levels) in
    let start : List ℕ → List ℕ = λ (choice : List ℕ). level ∷ choice in
    All-append P (map start (choices m levels)) (choices (suc m) levels)
    (All-map P start (choices m levels)
    (All-weaker (HasSome m levels) (λ (choice : List ℕ). P (level ∷ choice)) (λ choice is. (ap suc is.0, with_first level is.1)) (choices m levels) (choices_sublists m levels)))
    (All-weaker (HasSome (suc m) levels) P (λ choice is. (is.0, without level is.1)) (choices (suc m) levels) (choices_sublists (suc m) levels))

-- there is no choice of more than there are
pub choices_none : (m : ℕ) (levels : List ℕ) → length levels < m → choices m levels ≡ []
choices_none zero levels few = absurd (omega arith)
choices_none (suc m) [] few = refl
choices_none (suc m) (level ∷ levels) few =
    ap (λ (cs : List (List ℕ)). map (λ (choice : List ℕ). level ∷ choice) cs ++ choices (suc m) levels) (choices_none m levels (omega arith))
    ∙ choices_none (suc m) levels (omega arith)

pub sublist_all : (P : ℕ → Type 0) {part xs : List ℕ} → IsSublist part xs → All P xs → All P part
sublist_all P (nothing xs) each = All-nil P
sublist_all P (with_first x {part} {xs} rest) each =
    All-cons P x part (All-head P x xs each) (sublist_all P rest (All-tail P x xs each))
sublist_all P (without x {part} {xs} rest) each = sublist_all P rest (All-tail P x xs each)

-- ---- numbers below a bound, none of them twice

pub distinct_tail : (bound x : ℕ) (xs : List ℕ) → AreDistinctBelow bound (x ∷ xs) → AreDistinctBelow bound xs
distinct_tail bound x xs is =
    record { below = λ k hk. is.below (suc k) (omega arith); distinct = λ j k less hk. is.distinct (suc j) (suc k) (omega arith) (omega arith) }

pub first_apart : (bound x : ℕ) (xs : List ℕ) → AreDistinctBelow bound (x ∷ xs) → All (λ y. x ≢ y) xs
first_apart bound x xs is = All-from_get_or (λ y. x ≢ y) xs 0 (λ k hk. is.distinct 0 (suc k) (omega arith) (omega arith))

all_below : (bound : ℕ) (xs : List ℕ) → AreDistinctBelow bound xs → All (λ x. x < bound) xs
all_below bound xs is = All-from_get_or (λ x. x < bound) xs 0 (λ k hk. is.below k hk)

below_cons : (bound x : ℕ) (xs : List ℕ) → x < bound → AreDistinctBelow bound xs → (k : ℕ) → k < length (x ∷ xs) → get_or (x ∷ xs) k 0 < bound
below_cons bound x xs small is zero hk = small
below_cons bound x xs small is (suc k) hk = is.below k (omega arith)

apart_cons : (bound x : ℕ) (xs : List ℕ) → All (λ y. x ≢ y) xs → AreDistinctBelow bound xs
    → (j k : ℕ) → j < k → k < length (x ∷ xs) → get_or (x ∷ xs) j 0 ≢ get_or (x ∷ xs) k 0
apart_cons bound x xs new is j zero less hk = absurd (omega arith)
apart_cons bound x xs new is zero (suc k) less hk = new k 0 (omega arith)
apart_cons bound x xs new is (suc j) (suc k) less hk = is.distinct j k (omega arith) (omega arith)

distinct_cons : (bound x : ℕ) (xs : List ℕ) → x < bound → All (λ y. x ≢ y) xs → AreDistinctBelow bound xs → AreDistinctBelow bound (x ∷ xs)
distinct_cons bound x xs small new is =
    record { below = below_cons bound x xs small is; distinct = apart_cons bound x xs new is }

distinct_nil : (bound : ℕ) → AreDistinctBelow bound []
distinct_nil bound = record { below = λ k hk. absurd (omega arith); distinct = λ j k less hk. absurd (omega arith) }

pub distinct_sublist : (bound : ℕ) {part xs : List ℕ} → IsSublist part xs → AreDistinctBelow bound xs → AreDistinctBelow bound part
distinct_sublist bound (nothing xs) is = distinct_nil bound
distinct_sublist bound (with_first x {part} {xs} rest) is =
    distinct_cons bound x part (is.below 0 (omega arith)) (sublist_all (λ y. x ≢ y) rest (first_apart bound x xs is))
    (distinct_sublist bound rest (distinct_tail bound x xs is))
distinct_sublist bound (without x {part} {xs} rest) is = distinct_sublist bound rest (distinct_tail bound x xs is)

-- ---- so many numbers below a bound are at most so many

distinct_all : (bound : ℕ) (xs : List ℕ) → AreDistinctBelow bound xs → IsDistinct eqb xs
unfolding IsDistinct
distinct_all bound [] is = tt
distinct_all bound (x ∷ xs) is =
    let P : ℕ → Type 0 = λ y. eqb x y ≡ false in (
      recursion_from_All P xs (All-weaker (λ y. x ≢ y) P
          (λ y apart. elim (eqb_tells x y) [ inl same ↦ absurd (apart same.1) | inr other ↦ other.0 ]) xs (first_apart bound x xs is)),
      distinct_all bound xs (distinct_tail bound x xs is),
    )

any_below : (bound q : ℕ) (xs : List ℕ) → All (λ x. x < bound) xs → list_any (eqb q) xs ≡ true → q < bound
any_below bound q [] each there = absurd (false≢true there)
any_below bound q (x ∷ xs) each there =
    (elim (eqb q x) as (λ (b : Bool). eqb q x ≡ b → (b || list_any (eqb q) xs) ≡ true → q < bound) [
      | true ↦ λ same _. let is : q ≡ x = eqb-true q x same in omega (arith, is, All-head (λ y. y < bound) x xs each)
      | false ↦ λ _ later. any_below bound q xs (All-tail (λ y. y < bound) x xs each) later
    ]) refl there

pub distinct_few : (bound : ℕ) (xs : List ℕ) → AreDistinctBelow bound xs → length xs ≤ bound
distinct_few bound xs is =
    length-le_from_distinct_below xs bound (distinct_all bound xs is) (λ q there. any_below bound q xs (all_below bound xs is) there)

-- as many levels as columns
pub choices_fit : (columns levels : List ℕ) → 0 < length columns → AreDistinctBelow 251 columns → AreDistinctBelow 6 levels
    → All (IsChoice columns) (choices (length columns) levels)
choices_fit columns levels some each_column each_level =
    All-weaker (HasSome (length columns) levels) (IsChoice columns)
    (λ choice is.
    let distinct : AreDistinctBelow 6 choice = distinct_sublist 6 is.1 each_level in
    record {
      same_count = sym is.0;
      some = omega (arith, is.0);
      at_most_six = distinct_few 6 choice distinct;
      each_column = each_column;
      each_level = distinct;
    })
    (choices (length columns) levels) (choices_sublists (length columns) levels)
