use Rattle.std.proofs.Common.{◌≡◌, ◌<◌, ℕ, length, get_or}
use Rattle.cauchy.specs.Elimination.{entries, reduced_given}
use Rattle.cauchy.proofs.elimination.reduced_sums.Given as goal

abbrev pub invariant-loop-i : goal.invariant-loop-i
invariant-loop-i l =
    record {
      long : length l.sums.items ≡ l.i;
      made : (k : ℕ) → k < l.i → get_or l.sums.items k 0 ≡ reduced_given (entries l.matrix) l.n (λ i. get_or l.given.items i 0) k;
    }
