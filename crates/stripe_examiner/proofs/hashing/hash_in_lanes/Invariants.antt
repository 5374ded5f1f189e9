use Rattle.std.proofs.Common.{◌*◌, ◌-◌, length}
use Rattle.stripe_examiner.specs.FirstChoice.{HashesRooms}
use Rattle.stripe_examiner.proofs.hashing.hash_in_lanes.Given as goal

abbrev pub invariant-loop-eight : goal.invariant-loop-eight
invariant-loop-eight l = HashesRooms l.fn.shape l.fn.rooms l.rooms

abbrev pub decreases-loop-eight : goal.decreases-loop-eight
decreases-loop-eight l = length l.rooms * 6 - l.from
