-- A window looked over, one stripe more: what is chosen, and the counts.
use Rattle.std.proofs.Common.{◌≡◌, ℕ, ◌+◌, ◌<◌, ◌≤◌, Bool, true, false, eqb, List, [], ◌∷◌, ◌++◌, length, map, set, take, refl, sym, ap, ◌∙◌, arith}
use Rattle.std.specs.Prelude.{count_by, if◌then◌else◌}
use Rattle.std.proofs.lemmas.List.Recursion.{is_count_by}
use Rattle.std.proofs.lemmas.List.{length-append, map-append, take_more_set}
use Rattle.file_table.specs.Table.{TableValue}
use Rattle.stripe_reader.specs.WindowValue.{WindowValue}
use Rattle.snap_sync.specs.Closing.{verified_in}
use Rattle.stripe_findings.specs.Findings.{stripe_events, events_of}
use Rattle.stripe_findings.specs.Reading.{StripeReading, is_verified, reading_at}
use Rattle.snap_sync.specs.Work.{more_findings}
use Rattle.stripe_findings.proofs.FindingLemmas.{verified_where_nothing, events_of-more}
use Rattle.stripe_findings.proofs.SlotLemmas.{readings_to, readings_more}

-- one for a test that is passed
abbrev one_if : Bool → ℕ
one_if passed = if passed then 1 else 0

pub one_at_most : (passed : Bool) → one_if passed ≤ 1
one_at_most true = omega arith
one_at_most false = omega arith

-- how many pass a test, counted from the first on
abbrev pub counted : {X : Type 0} → (X → Bool) → List X → ℕ
counted p [] = 0
counted p (x ∷ xs) = if p x then 1 + counted p xs else counted p xs

pub counted_is : {X : Type 0} (p : X → Bool) (xs : List X) → counted p xs ≡ count_by p xs
counted_is p xs = is_count_by (counted p) p refl (λ x rest. refl) xs

counted_more : {X : Type 0} (p : X → Bool) (xs ys : List X) → counted p (xs ++ ys) ≡ counted p xs + counted p ys
counted_more p [] ys = omega arith
counted_more p (x ∷ xs) ys = by_case (p x) (counted_more p xs ys)
  where
    by_case : (b : Bool) → counted p (xs ++ ys) ≡ counted p xs + counted p ys
        → (if b then 1 + counted p (xs ++ ys) else counted p (xs ++ ys)) ≡ (if b then 1 + counted p xs else counted p xs) + counted p ys
    by_case true rest = omega (arith, rest)
    by_case false rest = rest

count_more : {X : Type 0} (p : X → Bool) (xs ys : List X) → count_by p (xs ++ ys) ≡ count_by p xs + count_by p ys
count_more p xs ys = omega (arith, counted_is p (xs ++ ys), counted_more p xs ys, counted_is p xs, counted_is p ys)

pub verified_in-append : (table : TableValue) (xs ys : List StripeReading) → verified_in table (xs ++ ys) ≡ verified_in table xs + verified_in table ys
verified_in-append table xs ys = count_more (is_verified table) xs ys

module _ (table : TableValue) (stripes : List ℕ) (window : WindowValue) (i : ℕ) where
  abbrev reading : StripeReading
  reading = reading_at stripes window i

  pub chosen_more : (chosen : List Bool) (found : ℕ) → i < length chosen → take i chosen ≡ map (is_verified table) (readings_to stripes window i)
      → found ≡ length (stripe_events table (reading_at stripes window i))
      → take (i + 1) (set chosen i (eqb found 0)) ≡ map (is_verified table) (readings_to stripes window (i + 1))
  chosen_more chosen found within before found_is =
      let here : eqb found 0 ≡ is_verified table reading = ap (λ (n : ℕ). eqb n 0) found_is ∙ sym (verified_where_nothing table reading) in
      take_more_set chosen i (eqb found 0) within
      ∙ ap (λ (bs : List Bool). bs ++ eqb found 0 ∷ []) before
      ∙ ap (λ (b : Bool). map (is_verified table) (readings_to stripes window i) ++ b ∷ []) here
      ∙ sym (map-append (is_verified table) (readings_to stripes window i) (reading ∷ []))
      ∙ sym (ap (map (is_verified table)) (readings_more stripes window i))

  pub synced_more : (synced found after : ℕ) → synced ≡ verified_in table (readings_to stripes window i) → found ≡ length (stripe_events table (reading_at stripes window i))
      → after ≡ synced + one_if (eqb found 0) → after ≡ verified_in table (readings_to stripes window (i + 1))
  synced_more synced found after before found_is after_is =
      let here : eqb found 0 ≡ is_verified table reading = ap (λ (n : ℕ). eqb n 0) found_is ∙ sym (verified_where_nothing table reading) in
      let same : one_if (eqb found 0) ≡ one_if (is_verified table reading) = ap one_if here in
      let last : verified_in table (reading ∷ []) ≡ one_if (is_verified table reading) = sym (counted_is (is_verified table) (reading ∷ [])) ∙ single (is_verified table reading) in
      let whole : verified_in table (readings_to stripes window (i + 1)) ≡ verified_in table (readings_to stripes window i) + verified_in table (reading ∷ []) =
      ap (verified_in table) (readings_more stripes window i) ∙ verified_in-append table (readings_to stripes window i) (reading ∷ []) in
      omega (arith, before, after_is, same, last, whole)
    where
      single : (b : Bool) → (if b then 1 + 0 else 0) ≡ one_if b
      single true = refl
      single false = refl

  pub findings_more : (findings found after : ℕ) → findings ≡ more_findings 0 (length (events_of table (readings_to stripes window i)))
      → found ≡ length (stripe_events table (reading_at stripes window i))
      → after ≡ more_findings findings found → after ≡ more_findings 0 (length (events_of table (readings_to stripes window (i + 1))))
  findings_more findings found after before found_is after_is =
      let whole : length (events_of table (readings_to stripes window (i + 1))) ≡ length (events_of table (readings_to stripes window i)) + length (stripe_events table reading) =
      ap length (events_of-more table stripes window i) ∙ length-append (events_of table (readings_to stripes window i)) (stripe_events table reading) in
      omega (arith, before, found_is, after_is, whole)
