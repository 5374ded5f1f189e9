use Rattle.std.proofs.Common.{◌≡◌, ◌+◌, length}
use Rattle.stripe_reader.specs.HashedLanes.{AreSomeDigests, IsBatch}
use Rattle.stripe_reader.proofs.hashing.hash_together.Given as goal

abbrev pub invariant-loop-rank : goal.invariant-loop-rank
invariant-loop-rank l = record {
  long : length l.digests ≡ length l.fn.digests;
  batch : IsBatch l.fn.count l.lanes l.fn.start (l.fn.start + length l.fn.digests) l.batch;
  some : AreSomeDigests l.fn.shape l.fn.count l.lanes l.fn.start l.digests;
}
