-- One event more in the counts.
use Rattle.std.proofs.Common.{◌≡◌, ℕ, ◌+◌, ◌-◌, ◌^◌, ◌<◌, ◌==◌, ◌≢◌, List, [], ◌∷◌, ◌++◌, Bool, true, false, cond, min, length, get_or, set, arith, refl, sym, ◌∙◌, eq-eqb, get_or-set_same, get_or-set_other}
use Rattle.std.specs.List.{count_by}
use Rattle.std.proofs.lemmas.List.Sums.{sum_by-append}
use Rattle.snap_report.specs.declared.events.Event.{Event}
use Rattle.snap_report.specs.Kind.{kind_of, Counts}

-- a count after one item more
pub count_more : {X : Type 0} (p : X → Bool) (xs : List X) (x : X) → count_by p (xs ++ x ∷ []) ≡ count_by p xs + cond (p x) 1 0
count_more p xs x = sum_by-append (λ y. cond (p y) 1 0) xs (x ∷ []) ∙ grind arith

-- by whether the event is of this kind
one_kind : (counts : List ℕ) (event : Event) (now before after k : ℕ) (same : Bool) → (kind_of event == k) ≡ same → kind_of event < length counts → now ≡ min (get_or counts (kind_of event) 0 + 1) (2 ^ 64 - 1) → get_or counts k 0 ≡ min before (2 ^ 64 - 1) → after ≡ before + cond same 1 0 → get_or (set counts (kind_of event) now) k 0 ≡ min after (2 ^ 64 - 1)
one_kind counts event now before after k true same within is kept more =
    let k_is : k ≡ kind_of event = grind (arith, same) in
    rw (k_is, get_or-set_same counts (kind_of event) now 0 within) (let here : get_or counts (kind_of event) 0 ≡ min before (2 ^ 64 - 1) = rw k_is at kept in omega (arith, is, here, more))
one_kind counts event now before after k false same within is kept more =
    let other : k ≢ kind_of event = λ e. absurd (let t : true ≡ false = sym (eq-eqb (kind_of event) k (sym e)) ∙ same in cc) in
    rw (get_or-set_other counts (kind_of event) k now 0 other) (omega (arith, kept, more))

pub counts_more : (counts : List ℕ) (events : List Event) (event : Event) (now : ℕ) → kind_of event < length counts → now ≡ min (get_or counts (kind_of event) 0 + 1) (2 ^ 64 - 1) → Counts counts events → Counts (set counts (kind_of event) now) (events ++ event ∷ [])
counts_more counts events event now within is kept k below =
    one_kind counts event now _ _ k (kind_of event == k) refl within is (kept k below) (count_more (λ e. kind_of e == k) events event)
