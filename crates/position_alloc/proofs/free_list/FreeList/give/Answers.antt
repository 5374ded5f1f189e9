use Rattle.std.proofs.Common.{◌≡◌, ◌<◌, ◌*◌, ◌/◌, ◌%◌, ◌^◌, List, length, set, ℕ, true, ap, ◌∙◌, arith, w64, bit_and}
use Rattle.std.proofs.lemmas.List.{with_items_is}
use Rattle.std.specs.Int.{bit_not}
use Rattle.std.specs.Ordering.{nat_cmp}
use Rattle.std.specs.FinSet.{FinSet, contains, remove}
use Rattle.position_alloc.specs.Words.{taken_of}
use Rattle.position_alloc.proofs.WordLemmas.{taken_within, taken_of-given}
use Rattle.position_alloc.proofs.free_list.FreeList.give.Goals as goal

pub index-requires : goal.index-requires
index-requires c =
    let there : contains (taken_of c.self.inside.words.items) c.args.p ≡ true = ap (λ (s : FinSet nat_cmp). contains s c.args.p) c.self.view_is ∙ c.requires in
    omega (arith, taken_within c.self.inside.words.items c.args.p there, c.self.inside.words.ok.0)

pub replace_word-requires-clause-index : goal.replace_word-requires-clause-index
replace_word-requires-clause-index c =
    let there : contains (taken_of c.self.inside.words.items) c.args.p ≡ true = ap (λ (s : FinSet nat_cmp). contains s c.args.p) c.self.view_is ∙ c.requires in
    omega (arith, taken_within c.self.inside.words.items c.args.p there, ap length c.deref_mut.ensures.value)

pub returns-clause-ok : goal.returns-clause-ok
returns-clause-ok c =
    let words = c.self.inside.words.items in
    let p = c.args.p in
    let new = c.replace_word.new.words in
    let there : contains (taken_of words) p ≡ true = ap (λ (s : FinSet nat_cmp). contains s p) c.self.view_is ∙ c.requires in
    let within : p / 64 < length words = taken_within words p there in
    let put = c.replace_word.ensures.words ∙ ap (λ (l : List ℕ). set l (p / 64) (bit_and c.index.result.now (bit_not w64 (1 * 2 ^ (p % 64) % 2 ^ 64)))) c.deref_mut.ensures.value in
    ap taken_of (with_items_is c.self.inside.words new (c.replace_word.auto.words ∙ c.deref_mut.ensures.len))
    ∙ taken_of-given words new p c.index.result.now within c.index.ensures put ∙ ap (λ (s : FinSet nat_cmp). remove s p) c.self.view_is
