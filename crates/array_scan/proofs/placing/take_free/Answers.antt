use Rattle.std.proofs.Common.{ℕ, List, [], ◌∷◌, ◌++◌, ap, ◌∙◌, arith, nat_cmp}
use Rattle.std.specs.FinSet.{FinSet, insert, len}
use Rattle.position_alloc.specs.Lowest.{lowest_free}
use Rattle.array_scan.specs.Laying.{free_positions}
use Rattle.array_scan.proofs.PlacingLemmas.{filled-more, free-more}
use Rattle.array_scan.proofs.PlacedLemmas.{one_longer}
use Rattle.array_scan.proofs.placing.take_free.Goals as goal

pub take-requires : goal.take-requires
take-requires c = omega (arith, c.loop.invariant.2, c.requires, c.loop-test.true)

pub loop-preserved : goal.loop-preserved
loop-preserved c =
    let list = c.args.list.now in
    let i = c.loop.counter in
    let is = c.in_ok-position.ensures.lowest in
    let more = c.in_ok-position.ensures.ok ∙ ap (insert c.loop.list) is in (
      more ∙ ap (λ (l : FinSet nat_cmp). insert l (lowest_free l)) c.loop.invariant.0 ∙ filled-more list i,
      c.in_ok-push.ensures.items ∙ ap (λ (ps : List ℕ). ps ++ c.in_ok-position.position ∷ []) c.loop.invariant.1
          ∙ ap (λ (p : ℕ). free_positions list i ++ p ∷ []) (is ∙ ap lowest_free c.loop.invariant.0) ∙ free-more list i,
      omega (arith, ap len more, one_longer c.loop.list, c.loop.invariant.2),
    )
