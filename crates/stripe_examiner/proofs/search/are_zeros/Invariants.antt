use Rattle.std.proofs.Common.{◌≡◌, ℕ, ◌<◌, slice_index}
use Rattle.stripe_examiner.proofs.search.are_zeros.Given as goal

-- no bit was met just where each byte so far is zero
abbrev pub invariant-loop-i : goal.invariant-loop-i
invariant-loop-i l = record {
  zeros : l.all ≡ 0 → (k : ℕ) → k < l.i → slice_index l.bytes k ≡ 0;
  none : ((k : ℕ) → k < l.i → slice_index l.bytes k ≡ 0) → l.all ≡ 0;
}
