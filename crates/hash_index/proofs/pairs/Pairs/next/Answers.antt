use Rattle.std.proofs.Common.{◌≡◌, ◌≢◌, ◌+◌, ◌∷◌, ℕ, List, length, Some, refl, sym, ap, ◌∙◌, subst, arith}
use Rattle.std.proofs.lemmas.List.{get_or_read}
use Rattle.hash_index.specs.declared.pair.Pair.{Pair}
use Rattle.hash_index.specs.Duplicates.{spots_of}
use Rattle.hash_index.specs.Linking.{link_at}
use Rattle.hash_index.specs.Listing.{pairs_left, IsNextLinked, NoneLinked}
use Rattle.hash_index.proofs.ListingLemmas.{linked_within, first_within, alike_link, link_within, pair_given, pairs_done, pairs_skip, pairs_from, pairs_end, pairs_over}
use Rattle.hash_index.proofs.pairs.Pairs.next.Goals as goal

pub pair-requires-clause-first : goal.pair-requires-clause-first
pair-requires-clause-first c =
    let spots = spots_of c.self.inside.records in
    let links = c.self.inside.links.items in
    let is = c.self.invariant in
    let link_is : c.link_of-link.result ≡ link_at links c.self.inside.other = c.link_of-link.ensures ∙ ap (λ (all : List ℕ). link_at all c.self.inside.other) c.deref.ensures.value in
    let within = linked_within spots links is.links c.self.inside.other (λ none. c.if-link-ne0.true (link_is ∙ none)) in
    first_within spots links is.links c.self.inside.first c.self.inside.other c.link_of-link.result within link_is c.if-link-ne0.true is.alike

pub pair-requires-clause-other : goal.pair-requires-clause-other
pair-requires-clause-other c =
    let spots = spots_of c.self.inside.records in
    let links = c.self.inside.links.items in
    let is = c.self.invariant in
    let link_is : c.link_of-link.result ≡ link_at links c.self.inside.other = c.link_of-link.ensures ∙ ap (λ (all : List ℕ). link_at all c.self.inside.other) c.deref.ensures.value in
    let within = linked_within spots links is.links c.self.inside.other (λ none. c.if-link-ne0.true (link_is ∙ none)) in
    link_within spots links is.links c.self.inside.other c.link_of-link.result within link_is c.if-link-ne0.true

pub invariant_of-self : goal.invariant_of-self
invariant_of-self c =
    let spots = spots_of c.self.inside.records in
    let links = c.self.inside.links.items in
    let is = c.self.invariant in
    let link_is : c.link_of-link.result ≡ link_at links c.self.inside.other = c.link_of-link.ensures ∙ ap (λ (all : List ℕ). link_at all c.self.inside.other) c.deref.ensures.value in
    let within = linked_within spots links is.links c.self.inside.other (λ none. c.if-link-ne0.true (link_is ∙ none)) in
    record { links = is.links; few = is.few; first = is.first; alike = alike_link spots links is.links c.self.inside.first c.self.inside.other c.link_of-link.result within link_is c.if-link-ne0.true is.alike }

pub returns-then-link-ne0 : goal.returns-then-link-ne0
returns-then-link-ne0 c =
    let spots = spots_of c.self.inside.records in
    let links = c.self.inside.links.items in
    let is = c.self.invariant in
    let link_is : c.link_of-link.result ≡ link_at links c.self.inside.other = c.link_of-link.ensures ∙ ap (λ (all : List ℕ). link_at all c.self.inside.other) c.deref.ensures.value in
    let within = linked_within spots links is.links c.self.inside.other (λ none. c.if-link-ne0.true (link_is ∙ none)) in
    sym c.self.view_is ∙ pair_given spots links is.links c.self.inside.first c.self.inside.other c.link_of-link.result within link_is c.if-link-ne0.true is.alike
    ∙ ap (λ (pair : Pair). pair ∷ pairs_left spots c.self.inside.first c.link_of-link.result) (sym c.pair.ensures)

pub pair-requires-in-Some-clause-first : goal.pair-requires-in-Some-clause-first
pair-requires-in-Some-clause-first c =
    let spots = spots_of c.self.inside.records in
    let links = c.self.inside.links.items in
    let is = c.self.invariant in
    let link_is : c.link_of-link.result ≡ link_at links c.self.inside.other = c.link_of-link.ensures ∙ ap (λ (all : List ℕ). link_at all c.self.inside.other) c.deref.ensures.value in
    let next : IsNextLinked links (c.self.inside.first + 1) (Some c.in-Some.first) = subst (λ (all : List ℕ). IsNextLinked all (c.self.inside.first + 1) (Some c.in-Some.first)) c.deref-2.ensures.value c.in-Some.ensures in
    let other_is : c.index-other.result.now ≡ link_at links c.in-Some.first = get_or_read links c.in-Some.first c.index-other.result.now next.1 c.index-other.ensures 0 in
    let linked : c.index-other.result.now ≢ 0 = λ zero_is. next.2 (sym other_is ∙ zero_is) in
    let within = linked_within spots links is.links c.in-Some.first next.2 in
    within

pub pair-requires-in-Some-clause-other : goal.pair-requires-in-Some-clause-other
pair-requires-in-Some-clause-other c =
    let spots = spots_of c.self.inside.records in
    let links = c.self.inside.links.items in
    let is = c.self.invariant in
    let link_is : c.link_of-link.result ≡ link_at links c.self.inside.other = c.link_of-link.ensures ∙ ap (λ (all : List ℕ). link_at all c.self.inside.other) c.deref.ensures.value in
    let next : IsNextLinked links (c.self.inside.first + 1) (Some c.in-Some.first) = subst (λ (all : List ℕ). IsNextLinked all (c.self.inside.first + 1) (Some c.in-Some.first)) c.deref-2.ensures.value c.in-Some.ensures in
    let other_is : c.index-other.result.now ≡ link_at links c.in-Some.first = get_or_read links c.in-Some.first c.index-other.result.now next.1 c.index-other.ensures 0 in
    let linked : c.index-other.result.now ≢ 0 = λ zero_is. next.2 (sym other_is ∙ zero_is) in
    let within = linked_within spots links is.links c.in-Some.first next.2 in
    link_within spots links is.links c.in-Some.first c.index-other.result.now within other_is linked

pub invariant_of-self-in-Some : goal.invariant_of-self-in-Some
invariant_of-self-in-Some c =
    let spots = spots_of c.self.inside.records in
    let links = c.self.inside.links.items in
    let is = c.self.invariant in
    let link_is : c.link_of-link.result ≡ link_at links c.self.inside.other = c.link_of-link.ensures ∙ ap (λ (all : List ℕ). link_at all c.self.inside.other) c.deref.ensures.value in
    let next : IsNextLinked links (c.self.inside.first + 1) (Some c.in-Some.first) = subst (λ (all : List ℕ). IsNextLinked all (c.self.inside.first + 1) (Some c.in-Some.first)) c.deref-2.ensures.value c.in-Some.ensures in
    let other_is : c.index-other.result.now ≡ link_at links c.in-Some.first = get_or_read links c.in-Some.first c.index-other.result.now next.1 c.index-other.ensures 0 in
    let linked : c.index-other.result.now ≢ 0 = λ zero_is. next.2 (sym other_is ∙ zero_is) in
    let within = linked_within spots links is.links c.in-Some.first next.2 in
    record { links = is.links; few = is.few; first = omega (arith, within); alike = alike_link spots links is.links c.in-Some.first c.in-Some.first c.index-other.result.now within other_is linked (λ spot. refl) }

pub returns-in-Some : goal.returns-in-Some
returns-in-Some c =
    let spots = spots_of c.self.inside.records in
    let links = c.self.inside.links.items in
    let is = c.self.invariant in
    let link_is : c.link_of-link.result ≡ link_at links c.self.inside.other = c.link_of-link.ensures ∙ ap (λ (all : List ℕ). link_at all c.self.inside.other) c.deref.ensures.value in
    let next : IsNextLinked links (c.self.inside.first + 1) (Some c.in-Some.first) = subst (λ (all : List ℕ). IsNextLinked all (c.self.inside.first + 1) (Some c.in-Some.first)) c.deref-2.ensures.value c.in-Some.ensures in
    let other_is : c.index-other.result.now ≡ link_at links c.in-Some.first = get_or_read links c.in-Some.first c.index-other.result.now next.1 c.index-other.ensures 0 in
    let linked : c.index-other.result.now ≢ 0 = λ zero_is. next.2 (sym other_is ∙ zero_is) in
    let within = linked_within spots links is.links c.in-Some.first next.2 in
    let first = c.self.inside.first in
    let number = c.in-Some.first in
    sym c.self.view_is ∙ pairs_done spots links is.links first c.self.inside.other (sym link_is ∙ c.if-link-ne0.false) is.alike
    ∙ pairs_skip spots links is.links (first + 1) number next.0 (omega (arith, within)) next.3 ∙ pairs_from spots links is.links number within
    ∙ pair_given spots links is.links number number c.index-other.result.now within other_is linked (λ spot. refl)
    ∙ ap (λ (pair : Pair). pair ∷ pairs_left spots number c.index-other.result.now) (sym c.pair-in-Some.ensures)

pub returns-in-None : goal.returns-in-None
returns-in-None c =
    let spots = spots_of c.self.inside.records in
    let links = c.self.inside.links.items in
    let is = c.self.invariant in
    let link_is : c.link_of-link.result ≡ link_at links c.self.inside.other = c.link_of-link.ensures ∙ ap (λ (all : List ℕ). link_at all c.self.inside.other) c.deref.ensures.value in
    let none = subst (λ (all : List ℕ). NoneLinked all (c.self.inside.first + 1) (length all)) c.deref-2.ensures.value c.in-None.ensures in (
      sym c.self.view_is ∙ pairs_done spots links is.links c.self.inside.first c.self.inside.other (sym link_is ∙ c.if-link-ne0.false) is.alike ∙ pairs_end spots links is.links (c.self.inside.first + 1) none,
      pairs_over spots c.len-self-inside.result (omega (arith, c.len-self-inside.ensures.count)),
    )
