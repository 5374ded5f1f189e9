use Rattle.std.proofs.Common.{◌≡◌, ◌<◌, ℕ, length, get_or}
use Rattle.cauchy.specs.Elimination.{unit}
use Rattle.cauchy.proofs.inverse.unit_vector.Given as goal

abbrev pub invariant-loop-k : goal.invariant-loop-k
invariant-loop-k l =
    record {
      long : length l.values.items ≡ l.k;
      made : (j : ℕ) → j < l.k → get_or l.values.items j 0 ≡ unit l.i j;
    }
