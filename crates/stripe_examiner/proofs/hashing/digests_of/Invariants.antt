use Rattle.std.proofs.Common.{◌≡◌, ℕ, ◌/◌, ◌%◌, ◌<◌, List, length, get_or}
use Rattle.std.specs.Borrow.{Bor}
use Rattle.stripe_examiner.specs.declared.room.StripeRoom.{StripeRoom}
use Rattle.stripe_examiner.specs.Search.{block_in}
use Rattle.stripe_examiner.proofs.hashing.digests_of.Given as goal

-- the blocks of the numbers so far
abbrev pub invariant-loop-k : goal.invariant-loop-k
invariant-loop-k l = record {
  long : length l.bytes ≡ 8;
  sizes : (j : ℕ) (none : Bor (List ℕ)) → j < l.k → length (get_or l.bytes j none).now ≡ l.size;
  values : (j : ℕ) (none : Bor (List ℕ)) (other : StripeRoom) → j < l.k
      → (get_or l.bytes j none).now ≡ block_in l.size (get_or l.rooms (get_or l.eight j 0 / 6) other).blocks.items (get_or l.eight j 0 % 6);
}
