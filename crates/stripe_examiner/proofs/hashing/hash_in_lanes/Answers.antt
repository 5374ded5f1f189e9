use Rattle.stripe_examiner.proofs.FirstRooms.{rooms_blocks, rooms_same, rooms_then}
use Rattle.stripe_examiner.proofs.hashing.hash_in_lanes.Goals as goal

pub loop-eight-init : goal.loop-eight-init
loop-eight-init c = rooms_same c.args.shape c.args.rooms.now

pub hash_eight-requires-clause-rooms : goal.hash_eight-requires-clause-rooms
hash_eight-requires-clause-rooms c = rooms_blocks c.args.shape c.args.rooms.now c.loop-eight.rooms c.loop-eight.invariant c.requires.rooms

pub loop-eight-preserved : goal.loop-eight-preserved
loop-eight-preserved c = rooms_then c.args.shape c.args.rooms.now c.loop-eight.rooms c.hash_eight.new.rooms c.loop-eight.invariant c.hash_eight.ensures
