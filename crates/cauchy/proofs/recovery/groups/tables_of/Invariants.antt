use Rattle.std.proofs.Common.{◌≡◌, ◌<◌, ℕ, [], length, get_or}
use Rattle.cauchy.specs.Elimination.{entries}
use Rattle.cauchy.specs.Lanes.{AreLaneTables}
use Rattle.cauchy.proofs.recovery.groups.tables_of.Given as goal

abbrev pub invariant-loop-i : goal.invariant-loop-i
invariant-loop-i l =
    record {
      long : length l.tables ≡ 6;
      made : (i : ℕ) → i < l.i → (j : ℕ) → j < l.count → AreLaneTables (entries l.inverse i j) (get_or (get_or l.tables i []) j []);
    }
