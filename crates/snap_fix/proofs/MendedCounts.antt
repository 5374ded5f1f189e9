-- How many of the first numbers pass a test, which events there are of them, and counts of faults and calls that go on.
use Rattle.std.proofs.Common.{◌≡◌, ℕ, ◌+◌, ◌-◌, ◌≤◌, zero, suc, List, [], ◌∷◌, ◌++◌, Bool, true, false, if◌then◌else◌, refl, sym, ap, ◌∙◌, arith, append_assoc}
use Rattle.std.specs.Prelude.{count_by, ◌||◌, IsTrue}
use Rattle.std.specs.List.{range_with_len, list_any}
use Rattle.std.proofs.lemmas.List.Recursion.{is_count_by}
use Rattle.std.proofs.lemmas.List.{append-nil}
use Rattle.std.proofs.lemmas.List.Folds.{list_any-append}
use Rattle.disk_model.specs.Cause.{Rose, Grows}
use Rattle.snap_report.specs.Answer.{Gained}
use Rattle.snap_report.specs.declared.events.Event.{Event}
use Rattle.folder_listing.proofs.JoinedLemmas.{range_more}
use Rattle.stripe_examiner.proofs.TellingLemmas.{events_to, events_to-more}

abbrev pub one_if : Bool → ℕ
one_if passed = if passed then 1 else 0

counted : {X : Type 0} → (X → Bool) → List X → ℕ
counted p [] = 0
counted p (x ∷ xs) = if p x then 1 + counted p xs else counted p xs

counted_is : {X : Type 0} (p : X → Bool) (xs : List X) → counted p xs ≡ count_by p xs
unfolding counted
counted_is p xs = is_count_by (counted p) p refl (λ x rest. refl) xs

counted_push : {X : Type 0} (p : X → Bool) (xs : List X) (y : X) → counted p (xs ++ y ∷ []) ≡ counted p xs + one_if (p y)
unfolding counted
counted_push p [] y = omega arith
counted_push p (x ∷ xs) y = by_case (p x) (counted_push p xs y)
  where
    by_case : (b : Bool) → counted p (xs ++ y ∷ []) ≡ counted p xs + one_if (p y)
        → (if b then 1 + counted p (xs ++ y ∷ []) else counted p (xs ++ y ∷ [])) ≡ (if b then 1 + counted p xs else counted p xs) + one_if (p y)
    by_case true rest = omega (arith, rest)
    by_case false rest = rest

pub count_to-more : (p : ℕ → Bool) (n : ℕ) → count_by p (range_with_len 0 (n + 1)) ≡ count_by p (range_with_len 0 n) + one_if (p n)
count_to-more p n =
    ap (count_by p) (range_more n) ∙ sym (counted_is p (range_with_len 0 n ++ n ∷ [])) ∙ counted_push p (range_with_len 0 n) n
    ∙ ap (λ (k : ℕ). k + one_if (p n)) (counted_is p (range_with_len 0 n))

-- the events of so many numbers begin with those of fewer
split_by : (of : ℕ → List Event) (n k : ℕ) → (rest : List Event) × (events_to of (n + k) ≡ events_to of n ++ rest)
split_by of n zero = ([], ap (events_to of) (omega arith) ∙ sym (append-nil (events_to of n)))
split_by of n (suc k) =
    let earlier = split_by of n k in
    let next : n + suc k ≡ (n + k) + 1 = omega arith in (
      earlier.0 ++ of (n + k),
      ap (events_to of) next ∙ events_to-more of (n + k) ∙ ap (λ (events : List Event). events ++ of (n + k)) earlier.1
          ∙ append_assoc (events_to of n) earlier.0 (of (n + k)),
    )

pub events_split : (of : ℕ → List Event) (n m : ℕ) → n ≤ m → (rest : List Event) × (events_to of m ≡ events_to of n ++ rest)
events_split of n m short =
    let split = split_by of n (m - n) in
    let whole : m ≡ n + (m - n) = omega (arith, short) in
    (split.0, ap (events_to of) whole ∙ split.1)

-- ---- faults and calls

pub rose_later : {before mid after : ℕ} → before ≤ mid → Rose mid after → Rose before after
rose_later later rose = omega (arith, later, rose)

or_true : (b : Bool) → (b || true) ≡ true
or_true true = refl
or_true false = refl

-- what was gained since later was gained since earlier
pub gained_later : {A : Type 0} {test : A → Bool} {told_before told_mid : Bool} {before mid after added : List A}
    → Grows told_before before told_mid mid added → Gained test mid after → IsTrue told_mid → Gained test before after
gained_later {test = test} {before = before} {added = added} grows gained told = record {
  gained = added ++ gained.gained;
  now_is = gained.now_is ∙ ap (λ xs. xs ++ gained.gained) (grows.more told) ∙ append_assoc before added gained.gained;
  one = list_any-append test added gained.gained ∙ ap (λ (b : Bool). list_any test added || b) gained.one ∙ or_true (list_any test added);
}
