use Rattle.std.proofs.Common.{◌≡◌, ◌<◌, ℕ, [], length, get_or}
use Rattle.cauchy.specs.Lanes.{AreLaneTables}
use Rattle.cauchy.specs.Matrix.{entry_of}
use Rattle.cauchy.proofs.levels.column_tables.Given as goal

abbrev pub invariant-loop-r : goal.invariant-loop-r
invariant-loop-r g l =
    record {
      long : length l.tables ≡ g.row.N;
      made : (q : ℕ) → q < l.r → AreLaneTables (entry_of q l.column) (get_or l.tables q []);
    }
