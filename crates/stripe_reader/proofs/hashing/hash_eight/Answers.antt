use Rattle.std.proofs.Common.{◌≡◌, ◌+◌, ◌-◌, ◌<◌, ◌∙◌, Some, ap, arith, get_or, length, []}
use Rattle.std.proofs.lemmas.List.{length-set}
use Rattle.block_hash.specs.declared.Digest16.{Digest16}
use Rattle.stripe_reader.specs.HashedLanes.{digest_at, numbered}
use Rattle.stripe_reader.proofs.HashingLemmas.{whole_digest}
use Rattle.stripe_reader.proofs.LaneLemmas.{some_set}
use Rattle.stripe_reader.proofs.hashing.hash_eight.Goals as goal

pub loop-k-preserved : goal.loop-k-preserved
loop-k-preserved c =
    let shape = c.args.shape in
    let count = c.args.count in
    let lanes = c.args.lanes.now in
    let start = c.args.start in
    let digests = c.loop-k.digests in
    let at = get_or c.args.eight.now c.loop-k.k 0 in
    let whole = c.requires.whole c.loop-k.k 0 (omega arith) in
    let made : Digest16 = get_or c.digests_of-made.result c.loop-k.k (record { 0 = [] }) in
    let within : at - start < length digests = omega (arith, whole.later, whole.before, c.loop-k.invariant.long) in
    let same : at ≡ start + (at - start) = omega (arith, whole.later) in
    let is : Some made ≡ digest_at shape count lanes (start + (at - start)) =
    whole_digest shape (numbered lanes count at) made c.requires.kind whole.whole (c.digests_of-made.ensures c.loop-k.k (record { 0 = [] }) c.loop-k-test.true)
    ∙ ap (digest_at shape count lanes) same in
    record {
      long = length-set digests (at - start) (Some made) ∙ c.loop-k.invariant.long;
      some = some_set shape count lanes start digests (at - start) (Some made) within is c.loop-k.invariant.some;
    }
