use Rattle.std.proofs.Common.{◌≡◌, ◌<◌, ℕ}
use Rattle.cauchy.specs.Elimination.{entries, reduced, HasShape}
use Rattle.cauchy.proofs.elimination.reduced_matrix.Given as goal

abbrev pub invariant-loop-i : goal.invariant-loop-i
invariant-loop-i l =
    record {
      shape : HasShape l.i l.n l.rows;
      made : (i : ℕ) → i < l.i → (j : ℕ) → j < l.n → entries l.rows i j ≡ reduced (entries l.matrix) l.n i j;
    }
