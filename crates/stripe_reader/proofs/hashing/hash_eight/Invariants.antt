use Rattle.std.proofs.Common.{◌≡◌, length}
use Rattle.stripe_reader.specs.HashedLanes.{AreSomeDigests}
use Rattle.stripe_reader.proofs.hashing.hash_eight.Given as goal

abbrev pub invariant-loop-k : goal.invariant-loop-k
invariant-loop-k l = record {
  long : length l.digests ≡ length l.fn.digests;
  some : AreSomeDigests l.fn.shape l.fn.count l.lanes l.fn.start l.digests;
}
