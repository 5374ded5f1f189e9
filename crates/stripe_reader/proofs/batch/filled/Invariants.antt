use Rattle.std.proofs.Common.{◌≡◌, ℕ, ◌<◌, ◌≤◌, length, slice_index}
use Rattle.stripe_reader.proofs.batch.filled.Given as goal

abbrev pub invariant-loop-k : goal.invariant-loop-k
invariant-loop-k l = record {
  long : length l.numbers ≡ 8;
  before : (j : ℕ) → j < l.found → slice_index l.numbers j ≡ slice_index l.eight j;
  behind : (j : ℕ) → l.found ≤ j → j < l.k → slice_index l.numbers j ≡ l.at;
}
