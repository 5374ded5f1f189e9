use Rattle.std.proofs.Common.{◌≡◌, ◌<◌, ℕ, [], length, get_or}
use Rattle.cauchy.specs.Elimination.{entries}
use Rattle.cauchy.specs.Lanes.{AreLaneTables}
use Rattle.cauchy.proofs.recovery.groups.row_tables.Given as goal

abbrev pub invariant-loop-j : goal.invariant-loop-j
invariant-loop-j l =
    record {
      long : length l.tables ≡ 6;
      made : (j : ℕ) → j < l.j → AreLaneTables (entries l.inverse l.i j) (get_or l.tables j []);
    }
