use Rattle.std.proofs.Common.{◌≢◌, ◌<◌, ℕ, get_or}
use Rattle.cauchy.proofs.choice.are_distinct_below.Given as goal

abbrev pub invariant-loop-k : goal.invariant-loop-k
invariant-loop-k l =
    record {
      below : (i : ℕ) → i < l.k → get_or l.numbers i 0 < l.bound;
      distinct : (j i : ℕ) → j < i → i < l.k → get_or l.numbers j 0 ≢ get_or l.numbers i 0;
    }
