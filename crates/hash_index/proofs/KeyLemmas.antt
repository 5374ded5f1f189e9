-- The keys of records: each has the mark and the number of one, and each record with a mark has one key.
use Rattle.std.proofs.Common.{◌≡◌, ◌≢◌, inl, inr, ℕ, ◌+◌, ◌<◌, ◌≤◌, ◌==◌, zero, suc, List, [], ◌∷◌, length, get_or, take, drop, cond, Bool, true, false, refl, sym, ap, ◌∙◌, Option, None, Some, arith}
use Rattle.std.specs.List.{All, Contains, cons_option, sum_by}
use Rattle.std.specs.List.Sorted.{IsPermutation}
use Rattle.std.specs.Option.{option_map}
use Rattle.std.proofs.lemmas.Bool.Decides.{eqb_tells}
use Rattle.std.proofs.lemmas.List.{get_or-take, length-take, at_drop_more}
use Rattle.std.proofs.lemmas.List.Elements.{All-nil, All-cons}
use Rattle.std.proofs.lemmas.List.Sorted.{sum_by-IsPermutation}
use Rattle.std.proofs.lemmas.List.Sums.{get_or-le-sum_by, sum_by_more_le, sum_by-le, sum_by-cons}
use Rattle.hash_index.specs.declared.links.Key.{Key}
use Rattle.hash_index.specs.Duplicates.{Spot, spot_in, kept_in, no_spot}
use Rattle.hash_index.specs.Marking.{mark_of}
use Rattle.hash_index.specs.Linking.{key_of, key_at, no_key, keys_from}

abbrev key : ℕ → ℕ → Key
key mark number = record { mark = mark; number = number }

-- one record more
pub keys_step : (spots : List Spot) (number : ℕ) → number < length spots
    → keys_from number (drop number spots) ≡ cons_option (key_of number (spot_in spots number)) (keys_from (number + 1) (drop (number + 1) spots))
keys_step spots number within = at_drop_more (keys_from number) spots number no_spot within

-- a key is that of a record, which are numbered from a number on
unfoldable pub IsKeyFrom : ℕ → List Spot → Key → Type 0
IsKeyFrom number spots one = (k : ℕ) × (one.number ≡ number + k) × (k < length spots) × (mark_of (kept_in spots k) ≡ Some one.mark)

all_or : (P : Key → Type 0) (o : Option ℕ) (number : ℕ) (keys : List Key) → ((mark : ℕ) → o ≡ Some mark → P (key mark number)) → All P keys → All P (cons_option (option_map (λ (mark : ℕ). key mark number) o) keys)
all_or P None number keys first all = all
all_or P (Some mark) number keys first all = All-cons P (key mark number) keys (first mark refl) all

pub keys_are : (number : ℕ) (spots : List Spot) → All (IsKeyFrom number spots) (keys_from number spots)
unfolding IsKeyFrom
keys_are number [] = All-nil (IsKeyFrom number [])
keys_are number (spot ∷ spots) =
    all_or (IsKeyFrom number (spot ∷ spots)) (mark_of spot.kept) number (keys_from (number + 1) spots)
    (λ mark marked. (0, omega arith, omega arith, marked))
    (λ k d within. let is = keys_are (number + 1) spots k d within in let place = is.1 in let inside = is.2 in (suc is.0, omega arith, omega arith, is.3))

contains_more : (o : Option Key) (keys : List Key) (one : Key) → Contains keys one → Contains (cons_option o keys) one
contains_more None keys one held = held
contains_more (Some first) keys one held = let inside = held.1 in (suc held.0, omega arith, held.2)

contains_first : (o : Option ℕ) (mark number same : ℕ) (keys : List Key) → o ≡ Some mark → same ≡ number → Contains (cons_option (option_map (λ (m : ℕ). key m number) o) keys) (key mark same)
contains_first None mark number same keys is equal = absurd cc
contains_first (Some first) mark number same keys is equal =
    let marks : first ≡ mark = cc in (0, omega arith, λ i. key (marks i) (sym equal i))

-- a record that has a mark has its key
pub key_held : (number : ℕ) (spots : List Spot) (k mark same : ℕ) → k < length spots → mark_of (kept_in spots k) ≡ Some mark → same ≡ number + k → Contains (keys_from number spots) (key mark same)
key_held number [] k mark same within marked equal = absurd (omega arith)
key_held number (spot ∷ spots) zero mark same within marked equal =
    contains_first (mark_of spot.kept) mark number same (keys_from (number + 1) spots) marked (omega arith)
key_held number (spot ∷ spots) (suc k) mark same within marked equal =
    contains_more (key_of number spot) (keys_from (number + 1) spots) (key mark same) (key_held (number + 1) spots k mark same (omega arith) marked (omega arith))

-- ---- no number has two keys

counts : ℕ → Key → ℕ
counts number one = cond (one.number == number) 1 0

counts_at_most : (number : ℕ) (one : Key) → counts number one ≤ 1
unfolding counts
counts_at_most number one = (elim (one.number == number) as (λ (t : Bool). cond t 1 0 ≤ 1) [ true ↦ omega arith | false ↦ omega arith ])

counts_other : (number : ℕ) (one : Key) → one.number ≢ number → counts number one ≡ 0
unfolding counts
counts_other number one other = elim (eqb_tells one.number number) [
  | inl same ↦ absurd (other same.1)
  | inr apart ↦ ap (λ (t : Bool). cond t 1 0) apart.0
]

counts_same : (number : ℕ) (one : Key) → one.number ≡ number → counts number one ≡ 1
unfolding counts
counts_same number one same = elim (eqb_tells one.number number) [
  | inl equal ↦ ap (λ (t : Bool). cond t 1 0) equal.0
  | inr apart ↦ absurd (apart.1 same)
]

none_counted : (number : ℕ) (spots : List Spot) (low : ℕ) → low < number → sum_by (counts low) (keys_from number spots) ≤ 0
unfolding IsKeyFrom
none_counted number spots low below =
    let each : All (λ (one : Key). counts low one ≤ 0) (keys_from number spots) = λ k d within.
    let is = keys_are number spots k d within in
    let place = is.1 in
    let none = counts_other low (get_or (keys_from number spots) k d) (λ same. absurd (omega arith)) in omega arith in
    let whole = sum_by-le (counts low) 0 (keys_from number spots) each in
    omega arith

once_or : (o : Option ℕ) (number low : ℕ) (keys : List Key) → (low ≡ number → sum_by (counts low) keys ≤ 0) → sum_by (counts low) keys ≤ 1 → sum_by (counts low) (cons_option (option_map (λ (mark : ℕ). key mark number) o) keys) ≤ 1
once_or None number low keys none once = once
once_or (Some mark) number low keys none once =
    let more = sum_by-cons (counts low) (key mark number) keys in
    elim (eqb_tells number low) [
      | inl same ↦ let rest = none (sym same.1) in let first = counts_at_most low (key mark number) in omega arith
      | inr apart ↦ let first = counts_other low (key mark number) apart.1 in omega arith
    ]

once_counted : (number : ℕ) (spots : List Spot) (low : ℕ) → sum_by (counts low) (keys_from number spots) ≤ 1
once_counted number [] low = omega arith
once_counted number (spot ∷ spots) low =
    once_or (mark_of spot.kept) number low (keys_from (number + 1) spots) (λ same. none_counted (number + 1) spots low (omega arith)) (once_counted (number + 1) spots low)

twice_counted : (keys : List Key) (place at low : ℕ) → place < at → at < length keys → (key_at keys place).number ≡ low → (key_at keys at).number ≡ low → 2 ≤ sum_by (counts low) keys
twice_counted keys place at low before within first second =
    let long = length-take at keys in
    let whole = sum_by_more_le (counts low) keys at no_key within in
    let part = get_or-le-sum_by (counts low) (take at keys) place no_key (omega arith) in
    let read : get_or (take at keys) place no_key ≡ get_or keys place no_key = get_or-take at keys place no_key before in
    let one = ap (counts low) read ∙ counts_same low (key_at keys place) first in
    let other = counts_same low (key_at keys at) second in
    omega arith

pub numbers_differ : (spots : List Spot) (keys : List Key) (place at : ℕ) → IsPermutation (keys_from 0 spots) keys → place < at → at < length keys → (key_at keys place).number ≢ (key_at keys at).number
numbers_differ spots keys place at same before within equal =
    let low = (key_at keys at).number in
    let twice = twice_counted keys place at low before within equal refl in
    let sums = sum_by-IsPermutation (counts low) (keys_from 0 spots) keys same in
    let once = once_counted 0 spots low in
    absurd (omega arith)
