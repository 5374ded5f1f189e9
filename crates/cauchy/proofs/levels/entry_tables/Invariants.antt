use Rattle.std.proofs.Common.{◌≡◌, ◌<◌, ℕ, [], length, get_or}
use Rattle.cauchy.specs.Levels.{AreColumnTables}
use Rattle.cauchy.proofs.levels.entry_tables.Given as goal

abbrev pub invariant-loop-c : goal.invariant-loop-c
invariant-loop-c g l =
    record {
      long : length l.tables ≡ 251;
      made : (q : ℕ) → q < l.c → AreColumnTables g.row.N q (get_or l.tables q []);
    }
