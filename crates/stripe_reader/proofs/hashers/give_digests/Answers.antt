use Rattle.std.proofs.Common.{[], ◌≡◌, ◌≢◌, ◌∙◌, ◌+◌, ◌*◌, ◌-◌, ◌<◌, ◌≤◌, List, ap, arith, drop, get_or, length, subst, take, ℕ}
use Rattle.std.proofs.lemmas.List.{get_or-set_other, get_or_default, length-drop, length-take, with_items_is}
use Rattle.stripe_reader.specs.Fetched.{hashed_front}
use Rattle.stripe_reader.specs.SlotValue.{SlotValue}
use Rattle.stripe_reader.proofs.FrontLemmas.{maps_more}
use Rattle.stripe_reader.proofs.LaneLemmas.{front_digests}
use Rattle.stripe_reader.proofs.PartLemmas.{ends_before}
use Rattle.stripe_reader.proofs.hashers.give_digests.Goals as goal

pub give_front-requires : goal.give_front-requires
give_front-requires c =
    let k = c.loop-k.k in
    let count = c.args.count in
    let there : k < length c.loop-k.lanes = omega (arith, c.loop-k-test.true, c.loop-k.auto.lanes) in
    let is = c.as_mut_slice.ensures.value ∙ c.lane.view_is ∙ get_or_default c.loop-k.lanes k c.index-lanes-k.result [] there ∙ c.loop-k.invariant.others k (omega arith) in
    let enough : count ≤ length (get_or c.args.lanes.now k []) = c.requires.enough k [] (omega (arith, c.loop-k-test.true)) in
    omega (arith, ap length is, enough, length-take (k * count + count - k * count) (drop (k * count) c.args.digests.now))

pub loop-k-preserved : goal.loop-k-preserved
loop-k-preserved c =
    let k = c.loop-k.k in
    let count = c.args.count in
    let before = c.args.lanes.now in
    let lanes = c.loop-k.lanes in
    let digests = c.args.digests.now in
    let slots = c.give_front.new.slots in
    let own = take (k * count + count - k * count) (drop (k * count) digests) in
    let long : length slots ≡ c.lane.inside.slots.len = c.give_front.auto.slots ∙ c.as_mut_slice.ensures.len in
    let there : k < length lanes = omega (arith, c.loop-k-test.true, c.loop-k.auto.lanes) in
    let lane_is : c.as_mut_slice.result.now ≡ get_or lanes k c.index-lanes-k.result = c.as_mut_slice.ensures.value ∙ c.lane.view_is in
    let is = lane_is ∙ get_or_default lanes k c.index-lanes-k.result [] there ∙ c.loop-k.invariant.others k (omega arith) in
    let within : k * count + count ≤ length digests = omega (arith, c.requires.as_many, ends_before k (length before) count (omega (arith, c.loop-k-test.true))) in
    let own_long : length own ≡ count = omega (arith, within, length-take (k * count + count - k * count) (drop (k * count) digests), length-drop (k * count) digests) in
    rw (with_items_is c.lane.inside.slots slots long)
    (record {
      others = λ j above. let apart : j ≢ k = omega (arith, above) in get_or-set_other lanes k j slots [] apart ∙ c.loop-k.invariant.others j (omega (arith, above));
      given = λ shape are.
          maps_more (hashed_front shape count) [] before lanes k c.index-lanes-k.result slots (omega (arith, c.loop-k-test.true)) (c.loop-k.invariant.given shape are)
          (subst (λ (n : ℕ). slots ≡ hashed_front shape n (get_or lanes k c.index-lanes-k.result)) own_long
          (subst (λ (it : List SlotValue). slots ≡ hashed_front shape (length own) it) lane_is
          (c.give_front.ensures shape (front_digests shape count before digests k c.as_mut_slice.result.now is are within))));
    })
