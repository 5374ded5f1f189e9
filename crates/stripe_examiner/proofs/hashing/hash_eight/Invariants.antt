use Rattle.stripe_examiner.specs.FirstChoice.{HashesRooms}
use Rattle.stripe_examiner.proofs.hashing.hash_eight.Given as goal

abbrev pub invariant-loop-k : goal.invariant-loop-k
invariant-loop-k l = HashesRooms l.fn.shape l.fn.rooms l.rooms
