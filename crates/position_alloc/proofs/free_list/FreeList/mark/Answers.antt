use Rattle.std.proofs.Common.{◌≡◌, ◌<◌, ◌*◌, ◌/◌, ◌%◌, ◌^◌, List, length, set, length-append, ℕ, ap, ◌∙◌, arith, bit_or}
use Rattle.std.proofs.lemmas.List.{with_items_is, length-replicate}
use Rattle.std.specs.Ordering.{nat_cmp}
use Rattle.std.specs.FinSet.{FinSet, insert}
use Rattle.position_alloc.specs.Words.{taken_of}
use Rattle.position_alloc.specs.declared.free_list.FreeList.TheInside.{Inside}
use Rattle.position_alloc.proofs.WordLemmas.{taken_of-marked, taken_of-longer}
use Rattle.position_alloc.proofs.free_list.FreeList.mark.Goals as goal
use Rattle.position_alloc.proofs.free_list.FreeList.mark.Goals.{then-index-len+in_ok-words+in_ok-self-inside, else-index-len}

pub returns-clause-ok : goal.returns-clause-ok
returns-clause-ok c =
    let p = c.args.p in
    let inside = c.if-index-len.self-inside in
    let words = inside.words.items in
    let new = c.replace_word.new.words in
    let put = c.replace_word.ensures.words ∙ ap (λ (l : List ℕ). set l (p / 64) (bit_or c.index.result.now (1 * 2 ^ (p % 64) % 2 ^ 64))) c.deref_mut.ensures.value in
    let room : (taken_of words ≡ c.args.self.now) × (p / 64 < length words) =
    elim c.if-index-len.branch [
      | then-index-len+in_ok-words+in_ok-self-inside w ↦
          let grown = ap (λ (i : Inside). i.words.items) w.self-inside-is ∙ w.in_ok-words.ensures in (
            ap taken_of grown ∙ taken_of-longer w.deref.result.now _ ∙ ap taken_of w.deref.ensures.value ∙ c.self.view_is,
            omega (arith, ap length grown, length-append {A = ℕ}, length-replicate {A = ℕ}, w.max-count.ensures),
          )
      | else-index-len w ↦
          let same = ap (λ (i : Inside). i.words.items) w.self-inside-is in
          (ap taken_of same ∙ c.self.view_is, omega (arith, ap length same, c.self.inside.words.ok.0, c.len.ensures, w.if-index-len.false))
    ] in
    ap taken_of (with_items_is inside.words new (c.replace_word.auto.words ∙ c.deref_mut.ensures.len))
    ∙ taken_of-marked words new p c.index.result.now room.1 c.index.ensures put ∙ ap (λ (s : FinSet nat_cmp). insert s p) room.0
