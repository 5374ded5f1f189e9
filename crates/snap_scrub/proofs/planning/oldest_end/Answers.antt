use Rattle.std.proofs.Common.{rules, ap, ◌∙◌, subst, arith, ◌++◌, ◌∷◌}
use Rattle.std.specs.Prelude.{nat_lt}
use Rattle.std.specs.List.Sorted.{IsPermutation}
use Rattle.std.proofs.lemmas.Fn.{always_returns_same}
use Rattle.snap_scrub.specs.Order.{order_in}
use Rattle.snap_scrub.proofs.TakeLemmas.{taken_by, all_old, some_left}
use Rattle.snap_scrub.proofs.planning.oldest_end.Goals as goal

pub returns-then-share-len : goal.returns-then-share-len
returns-then-share-len c =
    λ stripe there.
    let table = c.args.table.now in
    let way = c.args.way.now in
    taken_by table way.plan c.in-Percent.percent way.older c.args.now c.first_recent-recent.result stripe c.in-Percent.is
    (all_old table c.args.stripes.now way.older c.args.now c.in-Percent.percent c.requires (λ i. omega (arith, c.type_inv.stripes i))
    c.first_recent-recent.result c.share_of-share.result c.in_ok-old.old.items c.first_recent-recent.ensures c.in_ok-old.ensures c.share_of-share.ensures (search rules) stripe there)

pub returns : goal.returns
returns c =
    λ stripe there.
    let table = c.args.table.now in
    let way = c.args.way.now in
    let select = c.select_nth_unstable_by_key-first in
    let front = select.result.0.now in
    let first = select.result.1.now in
    let back = select.result.2.now in
    let moved = subst (λ xs. IsPermutation xs (front ++ first ∷ back)) c.deref_mut.ensures.value select.ensures.permutation in
    let parted = select.ensures.partitioned (order_in table.infos) (always_returns_same _ _ _ (λ a r f' k. search rules)) in
    taken_by table way.plan c.in-Percent.percent way.older c.args.now c.stripe_order.result stripe c.in-Percent.is
    (ap (λ end. nat_lt (order_in table.infos stripe) end) c.stripe_order.ensures
    ∙ some_left table c.args.stripes.now way.older c.args.now c.in-Percent.percent c.requires (λ i. omega (arith, c.type_inv.stripes i))
    c.first_recent-recent.result c.share_of-share.result c.in_ok-old.old.items front first back c.first_recent-recent.ensures c.in_ok-old.ensures c.share_of-share.ensures moved select.ensures.front_len parted stripe there)
