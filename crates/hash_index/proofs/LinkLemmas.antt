-- The next record that is the same, by the order of keys.
use Rattle.std.proofs.Common.{◌≡◌, inl, inr, ℕ, ◌+◌, ◌*◌, ◌^◌, ◌<◌, ◌≤◌, List, length, get_or, set, Bool, true, false, refl, sym, ap, ◌∙◌, subst, Some, arith}
use Rattle.std.proofs.lemmas.Bool.{cases_lt}
use Rattle.std.proofs.lemmas.Bool.Decides.{eqb_tells}
use Rattle.std.proofs.lemmas.List.{get_or_default, get_or_read, length-set, get_or-set_same, get_or-set_other}
use Rattle.std.proofs.lemmas.List.Sorted.{All-permutation, Contains-permutation, length_permutation}
use Rattle.hash_index.specs.declared.links.Key.{Key}
use Rattle.hash_index.specs.Duplicates.{Spot, spot_in, kept_in, same_spot}
use Rattle.hash_index.specs.Marking.{mark_of}
use Rattle.hash_index.specs.Linking.{order_in, no_key, key_at, keys_from, AreKeys, NoneSame, IsNextSame, IsLink, AreLinks, link_at}
use Rattle.hash_index.proofs.SameLemmas.{marks_equal, has_mark}
use Rattle.hash_index.proofs.KeyLemmas.{IsKeyFrom, keys_are, key_held, numbers_differ}

-- marks between two equal ones in the order
mark_between : (mark between number middle last : ℕ) → mark * 2 ^ 32 + number ≤ between * 2 ^ 32 + middle → between * 2 ^ 32 + middle ≤ mark * 2 ^ 32 + last
    → middle < 2 ^ 32 → last < 2 ^ 32 → between ≡ mark
mark_between mark between number middle last low high fits fits_last = omega arith

-- what is not so is false
pub is_false : (t : Bool) → ¬ (t ≡ true) → t ≡ false
is_false true h = absurd (h refl)
is_false false h = refl

-- what a key says of its record
pub record IsKeyOf (spots : List Spot) (one : Key) : Type 0 where
  pub within : one.number < length spots
  pub mark : mark_of (kept_in spots one.number) ≡ Some one.mark

pub key_is : (spots : List Spot) (keys : List Key) (at : ℕ) → AreKeys spots keys → at < length keys → IsKeyOf spots (key_at keys at)
unfolding IsKeyFrom
key_is spots keys at are within =
    let is = All-permutation (IsKeyFrom 0 spots) (keys_from 0 spots) keys are.same (keys_are 0 spots) at no_key within in
    let place = is.1 in
    let inside = is.2 in
    let number : is.0 ≡ (key_at keys at).number = omega arith in
    record { within = omega arith; mark = ap (λ (k : ℕ). mark_of (kept_in spots k)) (sym number) ∙ is.3 }

-- a record with a mark has its key at some place
pub record StandsAt (keys : List Key) (mark number at : ℕ) : Type 0 where
  pub within : at < length keys
  pub mark_is : (key_at keys at).mark ≡ mark
  pub number_is : (key_at keys at).number ≡ number

pub stands : (spots : List Spot) (keys : List Key) (number mark : ℕ) → AreKeys spots keys → number < length spots → mark_of (kept_in spots number) ≡ Some mark → (at : ℕ) × StandsAt keys mark number at
stands spots keys number mark are within marked =
    let one : Key = record { mark = mark; number = number } in
    let held = Contains-permutation (keys_from 0 spots) keys one are.same (key_held 0 spots number mark number within marked (omega arith)) in
    let read : key_at keys held.0 ≡ one = get_or_default keys held.0 no_key one held.1 ∙ held.2 in
    (held.0, record { within = held.1; mark_is = ap (λ (k : Key). k.mark) read; number_is = ap (λ (k : Key). k.number) read })

-- the keys behind one, up to a place, are of other records than are the same
abbrev pub NoneMet : List Spot → List Key → ℕ → ℕ → Type 0
NoneMet spots keys place end =
    (at : ℕ) → place < at → at < end → same_spot (spot_in spots (key_at keys place).number) (spot_in spots (key_at keys at).number) ≡ false

module _ (spots : List Spot) (keys : List Key) (place : ℕ) (are : AreKeys spots keys) (within : place < length keys) where
  -- a later record that is the same has a key behind, with the same mark
  behind : (later : ℕ) → (key_at keys place).number < later → later < length spots → same_spot (spot_in spots (key_at keys place).number) (spot_in spots later) ≡ true
      → (at : ℕ) × (place < at) × StandsAt keys (key_at keys place).mark later at
  behind later after inside same =
      let marked = sym (marks_equal (kept_in spots (key_at keys place).number) (kept_in spots later) same) ∙ (key_is spots keys place are within).mark in
      let found = stands spots keys later (key_at keys place).mark are inside marked in
      let there = found.1 in
      elim (cases_lt place found.0) [
        | inl less ↦ (found.0, less, there)
        | inr ge ↦ absurd (
            let low = are.rise found.0 place no_key ge within in
            let mark = there.mark_is in
            let number = there.number_is in
            let order : order_in (key_at keys found.0) ≡ (key_at keys place).mark * 2 ^ 32 + later = λ i. mark i * 2 ^ 32 + number i in
            omega arith)
      ]

  -- none of a mark behind a key of another mark
  unlike_mark : (at last : ℕ) → place < at → at ≤ last → last < length keys → (key_at keys last).mark ≡ (key_at keys place).mark → (key_at keys at).mark ≡ (key_at keys place).mark
  unlike_mark at last after le inside mark =
      let low = are.rise place at no_key (omega arith) (omega arith) in
      let high = are.rise at last no_key le inside in
      let first = key_is spots keys at are (omega arith) in
      let second = key_is spots keys last are inside in
      let fits = first.within in
      let fits_last = second.within in
      let few = are.few in
      let top = subst (λ (m : ℕ). order_in (key_at keys at) ≤ m * 2 ^ 32 + (key_at keys last).number) mark high in
      mark_between (key_at keys place).mark (key_at keys at).mark (key_at keys place).number (key_at keys at).number (key_at keys last).number low top (omega arith) (omega arith)

  met_before : (end at later : ℕ) → NoneMet spots keys place end → place < at → at < end → StandsAt keys (key_at keys place).mark later at → same_spot (spot_in spots (key_at keys place).number) (spot_in spots later) ≡ true → ⊥
  met_before end at later none after below there same =
      let unlike = none at after below in
      let met = ap (λ (n : ℕ). same_spot (spot_in spots (key_at keys place).number) (spot_in spots n)) there.number_is in
      let clash : true ≡ false = sym same ∙ sym met ∙ unlike in cc

  -- a look that met none, and ended at another mark or at the end
  pub none_by_mark : (at : ℕ) → place < at → at < length keys → NoneMet spots keys place at → ¬ ((key_at keys at).mark ≡ (key_at keys place).mark) → IsLink spots (key_at keys place).number 0
  none_by_mark at after inside none other =
      let all : NoneSame spots (key_at keys place).number (length spots) = λ later behind_it below. is_false _ (λ same.
      let found = behind later behind_it below same in
      let there = found.2 in
      elim (cases_lt found.0 at) [
        | inl less ↦ met_before at found.0 later none found.1 less there same
        | inr ge ↦ other (unlike_mark at found.0 after ge there.within there.mark_is)
      ]) in
      record { none = λ zero_is. all; some = λ above. absurd (omega arith) }

  pub none_to_end : NoneMet spots keys place (length keys) → IsLink spots (key_at keys place).number 0
  none_to_end none =
      let all : NoneSame spots (key_at keys place).number (length spots) = λ later behind_it below. is_false _ (λ same.
      let found = behind later behind_it below same in
      let there = found.2 in
      met_before (length keys) found.0 later none found.1 there.within there same) in
      record { none = λ zero_is. all; some = λ above. absurd (omega arith) }

  -- the first that is met
  pub next_by_key : (at : ℕ) → place < at → at < length keys → NoneMet spots keys place at → (key_at keys at).mark ≡ (key_at keys place).mark
      → same_spot (spot_in spots (key_at keys place).number) (spot_in spots (key_at keys at).number) ≡ true → IsLink spots (key_at keys place).number (key_at keys at).number
  next_by_key at after inside none mark same =
      let low = are.rise place at no_key (omega arith) inside in
      let high = subst (λ (m : ℕ). order_in (key_at keys place) ≤ m * 2 ^ 32 + (key_at keys at).number) mark low in
      let other = numbers_differ spots keys place at are.same after inside in
      let later : (key_at keys place).number < (key_at keys at).number = elim (eqb_tells (key_at keys place).number (key_at keys at).number) [
        | inl equal ↦ absurd (other equal.1)
        | inr apart ↦ let differ = apart.1 in omega arith
      ] in
      let between : NoneSame spots (key_at keys place).number (key_at keys at).number = λ middle behind_it below. is_false _ (λ alike.
      let is = key_is spots keys at are inside in
      let is_within = is.within in
      let found = behind middle behind_it (omega arith) alike in
      let there = found.2 in
      elim (cases_lt found.0 at) [
        | inl less ↦ met_before at found.0 middle none found.1 less there alike
        | inr ge ↦
            let up = are.rise at found.0 no_key ge there.within in
            let marks = there.mark_is in
            let numbers = there.number_is in
            let order : order_in (key_at keys found.0) ≡ (key_at keys place).mark * 2 ^ 32 + middle = λ i. marks i * 2 ^ 32 + numbers i in
            let from : order_in (key_at keys at) ≡ (key_at keys place).mark * 2 ^ 32 + (key_at keys at).number = λ i. mark i * 2 ^ 32 + (key_at keys at).number in
            absurd (omega arith)
      ]) in
      record {
        none = λ zero_is. absurd (omega arith);
        some = λ above. record { later = later; within = (key_is spots keys at are inside).within; same = same; none = between };
      }

-- ---- all links

-- the links of the keys before a place are there, and no other
pub record AreLinked (spots : List Spot) (keys : List Key) (links : List ℕ) (end : ℕ) : Type 0 where
  pub count : length links ≡ length spots
  pub some : (number : ℕ) → 0 < link_at links number → IsNextSame spots number (link_at links number)
  pub none : (at : ℕ) → at < end → link_at links (key_at keys at).number ≡ 0 → NoneSame spots (key_at keys at).number (length spots)

pub linked_more : (spots : List Spot) (keys : List Key) (links : List ℕ) (place link : ℕ) → AreKeys spots keys → place < length keys → AreLinked spots keys links place
    → IsLink spots (key_at keys place).number link → AreLinked spots keys (set links (key_at keys place).number link) (place + 1)
linked_more spots keys links place link are within linked is =
    let number = (key_at keys place).number in
    let now = set links number link in
    let long = length-set links number link in
    let count = linked.count in
    let here = (key_is spots keys place are within).within in
    let there : number < length links = omega arith in
    let read : link_at now number ≡ link = get_or-set_same links number link 0 there in
    record {
      count = omega arith;
      some = λ other above. elim (eqb_tells other number) [
        | inl same ↦
            let whole : link_at now other ≡ link = ap (link_at now) same.1 ∙ read in
            subst (λ (n : ℕ). IsNextSame spots n (link_at now other)) (sym same.1) (subst (IsNextSame spots number) (sym whole) (is.some (omega arith)))
        | inr apart ↦
            let whole : link_at now other ≡ link_at links other = get_or-set_other links number other link 0 apart.1 in
            subst (IsNextSame spots other) (sym whole) (linked.some other (omega arith))
      ];
      none = λ at below zero_is. elim (eqb_tells (key_at keys at).number number) [
        | inl same ↦
            let whole : link_at now (key_at keys at).number ≡ link = ap (link_at now) same.1 ∙ read in
            subst (λ (n : ℕ). NoneSame spots n (length spots)) (sym same.1) (is.none (sym whole ∙ zero_is))
        | inr apart ↦
            let whole : link_at now (key_at keys at).number ≡ link_at links (key_at keys at).number = get_or-set_other links number (key_at keys at).number link 0 apart.1 in
            elim (cases_lt at place) [
              | inl less ↦ linked.none at less (sym whole ∙ zero_is)
              | inr ge ↦ let last : at ≡ place = omega arith in absurd (apart.1 (ap (λ (k : ℕ). (key_at keys k).number) last))
            ]
      ];
    }

pub all_linked : (spots : List Spot) (keys : List Key) (links : List ℕ) → AreKeys spots keys → AreLinked spots keys links (length keys) → AreLinks spots links
all_linked spots keys links are linked = record {
  count = linked.count;
  each = λ number within. record {
    some = linked.some number;
    none = λ zero_is later behind_it below. is_false _ (λ same.
        let marked = has_mark (kept_in spots number) (kept_in spots later) same in
        let found = stands spots keys number marked.0 are within marked.1 in
        let there = found.1 in
        let link : link_at links (key_at keys found.0).number ≡ 0 = ap (link_at links) there.number_is ∙ zero_is in
        let none = subst (λ (n : ℕ). NoneSame spots n (length spots)) there.number_is (linked.none found.0 there.within link) in
        let clash : true ≡ false = sym same ∙ none later behind_it below in cc);
  };
}

-- ---- as the loop has them

pub keys_long : (spots : List Spot) (keys : List Key) → AreKeys spots keys → length keys ≡ length (keys_from 0 spots)
keys_long spots keys are = length_permutation (keys_from 0 spots) keys are.same

pub key_within : (spots : List Spot) (keys : List Key) (place : ℕ) (one : Key) → AreKeys spots keys → place < length keys → one ≡ get_or keys place one → one.number < length spots
key_within spots keys place one are within read =
    let is : one ≡ key_at keys place = get_or_read keys place one within read no_key in
    subst (λ (k : Key). k.number < length spots) (sym is) (key_is spots keys place are within).within

pub linked_next : (spots : List Spot) (keys seen : List Key) (links : List ℕ) (place link : ℕ) (one : Key) → AreKeys spots keys → place < length keys → one ≡ get_or keys place one → seen ≡ keys
    → AreLinked spots keys links place → IsLink spots (key_at seen place).number link → AreLinked spots keys (set links one.number link) (place + 1)
linked_next spots keys seen links place link one are within read same linked is =
    let one_is : one ≡ key_at keys place = get_or_read keys place one within read no_key in
    subst (λ (k : Key). AreLinked spots keys (set links k.number link) (place + 1)) (sym one_is)
    (linked_more spots keys links place link are within linked (subst (λ (ks : List Key). IsLink spots (key_at ks place).number link) same is))

pub linked_to_end : (spots : List Spot) (keys : List Key) (links : List ℕ) (place : ℕ) → AreKeys spots keys → length keys ≤ place → AreLinked spots keys links place → AreLinks spots links
linked_to_end spots keys links place are past linked =
    all_linked spots keys links are (record { count = linked.count; some = linked.some; none = λ at below. linked.none at (omega arith) })
