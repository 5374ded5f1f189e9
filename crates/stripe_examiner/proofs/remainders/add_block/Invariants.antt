use Rattle.std.proofs.Common.{◌≡◌, ℕ, ◌<◌, ◌≤◌, slice_index}
use Rattle.gf256.specs.Field.{field_sum}
use Rattle.stripe_examiner.proofs.remainders.add_block.Given as goal

-- the bytes so far are added, and the others are as they were
abbrev pub invariant-loop-p : goal.invariant-loop-p
invariant-loop-p l = record {
  added : (k : ℕ) → k < l.p → slice_index l.out k ≡ field_sum (slice_index l.block k) (slice_index l.fn.out k);
  rest : (k : ℕ) → l.p ≤ k → slice_index l.out k ≡ slice_index l.fn.out k;
}
