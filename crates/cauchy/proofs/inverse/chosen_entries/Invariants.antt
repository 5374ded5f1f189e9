use Rattle.std.proofs.Common.{◌≡◌, ◌<◌, ℕ, length}
use Rattle.cauchy.specs.Elimination.{entries, HasShape}
use Rattle.cauchy.specs.System.{chosen}
use Rattle.cauchy.proofs.inverse.chosen_entries.Given as goal

abbrev pub invariant-loop-i : goal.invariant-loop-i
invariant-loop-i l =
    record {
      shape : HasShape l.i (length l.columns) l.rows;
      made : (i : ℕ) → i < l.i → (j : ℕ) → j < length l.columns → entries l.rows i j ≡ chosen l.columns l.levels i j;
    }
