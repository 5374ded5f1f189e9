use Rattle.std.proofs.Common.{◌≡◌, ◌<◌, ℕ, length, get_or}
use Rattle.cauchy.specs.Elimination.{entries, reduced}
use Rattle.cauchy.proofs.elimination.reduced_row.Given as goal

abbrev pub invariant-loop-j : goal.invariant-loop-j
invariant-loop-j l =
    record {
      long : length l.row.items ≡ l.j;
      made : (k : ℕ) → k < l.j → get_or l.row.items k 0 ≡ reduced (entries l.matrix) l.n l.i k;
    }
