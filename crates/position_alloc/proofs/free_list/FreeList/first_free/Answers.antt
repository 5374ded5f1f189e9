use Rattle.std.proofs.Common.{◌≡◌, ◌<◌, ◌*◌, length, ℕ, get_or, min, sym, subst, ap, ◌∙◌, arith}
use Rattle.std.proofs.lemmas.Bool.{eqb-true, eqb-false}
use Rattle.std.proofs.lemmas.List.{get_or_default}
use Rattle.std.specs.FinSet.{FinSet}
use Rattle.std.specs.Ordering.{nat_cmp}
use Rattle.position_alloc.specs.Lowest.{IsLowestFree}
use Rattle.position_alloc.proofs.LowestLemmas.{only_lowest}
use Rattle.position_alloc.proofs.TreeLemmas.{root_is_lowest}
use Rattle.position_alloc.proofs.WordLemmas.{none_taken}
use Rattle.position_alloc.proofs.free_list.FreeList.first_free.Goals as goal

pub returns-then-is_empty : goal.returns-then-is_empty
returns-then-is_empty c =
    let words = c.self.inside.words in
    let none : length words.items ≡ 0 = omega (arith, eqb-true _ _ (sym c.if-is_empty.ensures), words.ok.0) in
    let lowest : IsLowestFree c.args.self.now 0 = subst (λ (s : FinSet nat_cmp). IsLowestFree s 0) c.self.view_is (none_taken words.items none) in
    record { is = only_lowest c.args.self.now 0 lowest; lowest = lowest }

pub returns : goal.returns
returns c =
    let words = c.self.inside.words in
    let tree = c.self.inside.tree.items in
    let some : 0 < length words.items = omega (arith, eqb-false _ _ (sym c.if-is_empty.ensures), words.ok.0) in
    let root = root_is_lowest words.items tree c.self.invariant some in
    let first : c.index.result.now ≡ get_or tree 1 0 = c.index.ensures ∙ get_or_default tree 1 c.index.result.now 0 (omega (arith, c.self.invariant.size)) in
    let count : c.len.result ≡ length words.items = c.len.ensures ∙ words.ok.0 in
    let same : c.min.result ≡ min (get_or tree 1 0) (64 * length words.items) =
    c.min.ensures ∙ ap (λ (a : ℕ). min a (64 * c.len.result)) first ∙ ap (λ (n : ℕ). min (get_or tree 1 0) (64 * n)) count in
    let lowest : IsLowestFree c.args.self.now c.min.result =
    subst (IsLowestFree c.args.self.now) (sym same) (subst (λ (s : FinSet nat_cmp). IsLowestFree s (min (get_or tree 1 0) (64 * length words.items))) c.self.view_is root) in
    record { is = only_lowest c.args.self.now c.min.result lowest; lowest = lowest }
