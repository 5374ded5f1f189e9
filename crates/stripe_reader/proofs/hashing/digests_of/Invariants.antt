use Rattle.std.proofs.Common.{◌≡◌, ℕ, ◌<◌, List, length, get_or}
use Rattle.std.specs.Borrow.{Bor}
use Rattle.stripe_reader.specs.HashedLanes.{numbered}
use Rattle.stripe_reader.specs.Hashing.{found_bytes}
use Rattle.stripe_reader.proofs.hashing.digests_of.Given as goal

-- the blocks of the numbers so far
abbrev pub invariant-loop-k : goal.invariant-loop-k
invariant-loop-k l = record {
  long : length l.bytes ≡ 8;
  values : (j : ℕ) (none : Bor (List ℕ)) → j < l.k → (get_or l.bytes j none).now ≡ found_bytes (numbered l.lanes l.count (get_or l.eight j 0));
}
