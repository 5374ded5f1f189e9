use Rattle.std.proofs.Common.{◌*◌, ◌/◌, ◌%◌, ◌<◌, length, get_or, arith}
use Rattle.stripe_examiner.proofs.FirstRooms.{rooms_more, rooms_same}
use Rattle.stripe_examiner.proofs.hashing.hash_eight.Goals as goal

pub loop-k-init : goal.loop-k-init
loop-k-init c = rooms_same c.args.shape c.args.rooms.now

pub loop-k-preserved : goal.loop-k-preserved
loop-k-preserved c =
    let at = get_or c.args.eight.now c.loop-k.k 0 in
    let none = c.index-rooms-eight.result in
    let here : c.loop-k.k < length c.args.eight.now = omega (arith, c.told-eight) in
    let within : at < length c.args.rooms.now * 6 = c.requires.within c.loop-k.k 0 here in
    rooms_more c.args.shape c.args.rooms.now c.loop-k.rooms (at / 6) (at % 6) none c.give_digest.new.own _ c.requires.kind (omega (arith, within))
    (c.digests_of-digests.ensures c.loop-k.k _ none (omega arith)) c.give_digest.ensures c.loop-k.invariant
