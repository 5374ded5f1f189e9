use Rattle.std.proofs.Common.{◌≡◌, ◌∙◌, ◌+◌, ap, arith, sym}
use Rattle.stripe_reader.specs.HashedLanes.{digest_at}
use Rattle.stripe_reader.proofs.hashers.hash_shares.Goals as goal

pub returns : goal.returns
returns g c k other lt =
    let place : k ≡ 0 + k = omega arith in
    let one = (c.for_each_chunk_mut.ensures.by_index k other (omega (arith, lt, c.for_each_chunk_mut.auto.s))).1 in
    sym one.new_element ∙ one.call.1 one.offset other (omega (arith, one.offset_in_chunk, one.call.0))
    ∙ ap (digest_at c.args.shape.now c.args.count c.args.lanes.now) (one.start_plus_offset ∙ place)
