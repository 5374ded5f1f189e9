use Rattle.std.proofs.Common.{◌≡◌, ℕ, ◌+◌, ◌<◌, Option, get_or}
use Rattle.block_hash.specs.declared.Digest16.{Digest16}
use Rattle.stripe_reader.specs.HashedLanes.{AreSomeDigests, digest_at}
use Rattle.stripe_reader.proofs.hashing.hash_rest.Given as goal

abbrev pub invariant-loop-k : goal.invariant-loop-k
invariant-loop-k l = record {
  some : AreSomeDigests l.fn.shape l.fn.count l.lanes l.fn.start l.digests;
  made : (j : ℕ) (other : Option Digest16) → j < l.k → get_or l.digests j other ≡ digest_at l.fn.shape l.fn.count l.lanes (l.fn.start + j);
}
