-- The pairs that are still to come, by links.
use Rattle.std.proofs.Common.{◌≡◌, ◌≢◌, inl, inr, ℕ, ◌+◌, ◌-◌, ◌<◌, ◌≤◌, zero, suc, List, [], ◌∷◌, ◌++◌, length, map, drop, Bool, true, false, refl, sym, ap, ◌∙◌, subst, arith}
use Rattle.std.specs.List.{filter}
use Rattle.std.proofs.lemmas.Bool.{cases_lt}
use Rattle.std.proofs.lemmas.List.{get_or-drop, get_or_past, length-drop, drop_all, drop_more, drop-drop}
use Rattle.hash_index.specs.Duplicates.{Spot, spot_in, no_spot, same_spot, pair_of, pairs_among}
use Rattle.hash_index.specs.Linking.{NoneSame, IsNextSame, AreLinks, link_at}
use Rattle.hash_index.specs.Listing.{pairs_left, NoneLinked}
use Rattle.hash_index.proofs.ChainLemmas.{filter_from, filter_none}
use Rattle.hash_index.proofs.SameLemmas.{joined}

-- records that are the same as the one are the same as the other
abbrev pub AreAlike : List Spot → ℕ → ℕ → Type 0
AreAlike spots first other = (spot : Spot) → same_spot (spot_in spots first) spot ≡ same_spot (spot_in spots other) spot

above_zero : (n : ℕ) → n ≢ 0 → 0 < n
above_zero zero some = absurd (some refl)
above_zero (suc n) some = omega arith

-- what is the same behind a record without a link, and behind one with a link
none_behind : (spots : List Spot) (number : ℕ) → NoneSame spots number (length spots) → filter (same_spot (spot_in spots number)) (drop (number + 1) spots) ≡ []
none_behind spots number none =
    filter_none (same_spot (spot_in spots number)) (drop (number + 1) spots) no_spot
    (λ k within. let long = length-drop (number + 1) spots in ap (same_spot (spot_in spots number)) (get_or-drop (number + 1) spots k no_spot) ∙ none ((number + 1) + k) (omega arith) (omega arith))

next_behind : (spots : List Spot) (number link : ℕ) → IsNextSame spots number link
    → filter (same_spot (spot_in spots number)) (drop (number + 1) spots) ≡ spot_in spots link ∷ filter (same_spot (spot_in spots link)) (drop (link + 1) spots)
next_behind spots number link next =
    let later = drop (number + 1) spots in
    let long = length-drop (number + 1) spots in
    let after = next.later in
    let inside = next.within in
    let step : ℕ = link - (number + 1) in
    let there : (number + 1) + step ≡ link = omega arith in
    let rest : drop (suc step) later ≡ drop (link + 1) spots = drop-drop (suc step) (number + 1) spots ∙ ap (λ (n : ℕ). drop n spots) (let all : (number + 1) + suc step ≡ link + 1 = omega arith in all) in
    filter_from same_spot (record { joined = λ x y z same. joined x.kept y.kept z.kept same }) (spot_in spots number) (spot_in spots link) no_spot later step (omega arith)
    (get_or-drop (number + 1) spots step no_spot ∙ ap (spot_in spots) there) next.same
    (λ k below. ap (same_spot (spot_in spots number)) (get_or-drop (number + 1) spots k no_spot) ∙ next.none ((number + 1) + k) (omega arith) (omega arith))
    ∙ ap (λ (left : List Spot). spot_in spots link ∷ filter (same_spot (spot_in spots link)) left) rest

module _ (spots : List Spot) (links : List ℕ) (are : AreLinks spots links) where
  -- a record without a link, or one that is not there
  unlinked : (number : ℕ) → link_at links number ≡ 0 → filter (same_spot (spot_in spots number)) (drop (number + 1) spots) ≡ []
  unlinked number none = elim (cases_lt number (length spots)) [
    | inl less ↦ none_behind spots number ((are.each number less).none none)
    | inr ge ↦ ap (filter (same_spot (spot_in spots number))) (drop_all (number + 1) spots (omega arith))
  ]

  -- the next pair of a record
  pub pair_given : (first other link : ℕ) → other < length spots → link ≡ link_at links other → link ≢ 0 → AreAlike spots first other
      → pairs_left spots first other ≡ pair_of (spot_in spots first) (spot_in spots link) ∷ pairs_left spots first link
  pair_given first other link within is some alike =
      let above : 0 < link_at links other = above_zero (link_at links other) (λ none. some (is ∙ none)) in
      let next = subst (IsNextSame spots other) (sym is) ((are.each other within).some above) in
      let test : same_spot (spot_in spots first) ≡ same_spot (spot_in spots other) = λ i spot. alike spot i in
      let same : same_spot (spot_in spots link) ≡ same_spot (spot_in spots first) = λ i spot. sym (alike spot ∙ joined (spot_in spots other).kept (spot_in spots link).kept spot.kept next.same) i in
      let found : filter (same_spot (spot_in spots first)) (drop (other + 1) spots) ≡ spot_in spots link ∷ filter (same_spot (spot_in spots first)) (drop (link + 1) spots) =
      ap (λ (p : Spot → Bool). filter p (drop (other + 1) spots)) test ∙ next_behind spots other link next ∙ ap (λ (p : Spot → Bool). spot_in spots link ∷ filter p (drop (link + 1) spots)) same in
      ap (λ (left : List Spot). map (pair_of (spot_in spots first)) left ++ pairs_among (drop (first + 1) spots)) found

  pub alike_link : (first other link : ℕ) → other < length spots → link ≡ link_at links other → link ≢ 0 → AreAlike spots first other → AreAlike spots first link
  alike_link first other link within is some alike spot =
      let above : 0 < link_at links other = above_zero (link_at links other) (λ none. some (is ∙ none)) in
      let next = subst (IsNextSame spots other) (sym is) ((are.each other within).some above) in
      alike spot ∙ joined (spot_in spots other).kept (spot_in spots link).kept spot.kept next.same

  -- what has a link is there, and so is what is the same as it
  pub linked_within : (number : ℕ) → link_at links number ≢ 0 → number < length spots
  linked_within number some =
      let count = are.count in
      elim (cases_lt number (length spots)) [
        | inl less ↦ less
        | inr ge ↦ absurd (some (get_or_past links number 0 (omega arith)))
      ]

  pub first_within : (first other link : ℕ) → other < length spots → link ≡ link_at links other → link ≢ 0 → AreAlike spots first other → first < length spots
  first_within first other link within is some alike = elim (cases_lt first (length spots)) [
    | inl less ↦ less
    | inr ge ↦
        let above : 0 < link_at links other = above_zero (link_at links other) (λ none. some (is ∙ none)) in
        let next = subst (IsNextSame spots other) (sym is) ((are.each other within).some above) in
        let gone : spot_in spots first ≡ no_spot = get_or_past spots first no_spot ge in
        let clash : true ≡ false = sym next.same ∙ sym (alike (spot_in spots link)) ∙ ap (λ (one : Spot). same_spot one (spot_in spots link)) gone in
        absurd (let e = clash in cc)
  ]

  pub link_within : (other link : ℕ) → other < length spots → link ≡ link_at links other → link ≢ 0 → link < length spots
  link_within other link within is some =
      let above : 0 < link_at links other = above_zero (link_at links other) (λ none. some (is ∙ none)) in
      (subst (IsNextSame spots other) (sym is) ((are.each other within).some above)).within

  -- a record has no more pairs
  pub pairs_done : (first other : ℕ) → link_at links other ≡ 0 → AreAlike spots first other → pairs_left spots first other ≡ pairs_among (drop (first + 1) spots)
  pairs_done first other none alike =
      let test : same_spot (spot_in spots first) ≡ same_spot (spot_in spots other) = λ i spot. alike spot i in
      let found : filter (same_spot (spot_in spots first)) (drop (other + 1) spots) ≡ [] = ap (λ (p : Spot → Bool). filter p (drop (other + 1) spots)) test ∙ unlinked other none in
      ap (λ (left : List Spot). map (pair_of (spot_in spots first)) left ++ pairs_among (drop (first + 1) spots)) found

  -- the pairs from a record on
  pub pairs_from : (number : ℕ) → number < length spots → pairs_among (drop number spots) ≡ pairs_left spots number number
  pairs_from number within = ap pairs_among (drop_more spots number no_spot within)

  skip : (number : ℕ) → number < length spots → link_at links number ≡ 0 → pairs_among (drop number spots) ≡ pairs_among (drop (number + 1) spots)
  skip number within none = pairs_from number within ∙ pairs_done number number none (λ spot. refl)

  skips : (count from : ℕ) → from + count ≤ length spots → NoneLinked links from (from + count) → pairs_among (drop from spots) ≡ pairs_among (drop (from + count) spots)
  skips zero from within none = let same : from ≡ from + 0 = omega arith in ap (λ (n : ℕ). pairs_among (drop n spots)) same
  skips (suc count) from within none =
      let same : (from + 1) + count ≡ from + suc count = omega arith in
      skip from (omega arith) (none from (omega arith) (omega arith))
      ∙ skips count (from + 1) (omega arith) (λ number after below. none number (omega arith) (omega arith))
      ∙ ap (λ (n : ℕ). pairs_among (drop n spots)) same

  -- no record from one on, and before another, has a link
  pub pairs_skip : (from end : ℕ) → from ≤ end → end ≤ length spots → NoneLinked links from end → pairs_among (drop from spots) ≡ pairs_among (drop end spots)
  pairs_skip from end le within none =
      let count : ℕ = end - from in
      let same : from + count ≡ end = omega arith in
      skips count from (omega arith) (λ number after below. none number after (omega arith)) ∙ ap (λ (n : ℕ). pairs_among (drop n spots)) same

  pub pairs_end : (from : ℕ) → NoneLinked links from (length links) → pairs_among (drop from spots) ≡ []
  pairs_end from none =
      let count = are.count in
      elim (cases_lt from (length spots)) [
        | inl less ↦ pairs_skip from (length spots) (omega arith) (omega arith) (λ number after below. none number after (omega arith)) ∙ ap pairs_among (drop_all (length spots) spots (omega arith))
        | inr ge ↦ ap pairs_among (drop_all from spots ge)
      ]

-- behind the last record nothing is left
pub pairs_over : (spots : List Spot) (number : ℕ) → length spots ≤ number → pairs_left spots number number ≡ []
pairs_over spots number past =
    let none : drop (number + 1) spots ≡ [] = drop_all (number + 1) spots (omega arith) in
    ap (λ (left : List Spot). map (pair_of (spot_in spots number)) (filter (same_spot (spot_in spots number)) left) ++ pairs_among left) none

-- before the first one all are
pub pairs_all : (spots : List Spot) → pairs_left spots 0 0 ≡ pairs_among spots
pairs_all [] = refl
pairs_all (spot ∷ spots) = refl
