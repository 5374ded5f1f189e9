use Rattle.std.proofs.Common.{◌<◌, ℕ, length}
use Rattle.cauchy.specs.Elimination.{entries, unit, HasShape, IsVector, Solves}
use Rattle.cauchy.specs.System.{chosen}
use Rattle.cauchy.proofs.inverse.inverse_columns.Given as goal

abbrev pub invariant-loop-i : goal.invariant-loop-i
invariant-loop-i l =
    record {
      shape : HasShape l.i (length l.levels) l.rows;
      elements : (i : ℕ) → i < l.i → IsVector (length l.levels) (entries l.rows i);
      units : (i : ℕ) → i < l.i → Solves (length l.levels) (chosen l.columns l.levels) (unit i) (entries l.rows i);
    }
