use Rattle.std.proofs.Common.{◌≡◌, ◌<◌, ℕ, length, get_or}
use Rattle.cauchy.specs.Matrix.{entry_of}
use Rattle.cauchy.proofs.inverse.level_entries.Given as goal

abbrev pub invariant-loop-j : goal.invariant-loop-j
invariant-loop-j l =
    record {
      long : length l.row.items ≡ l.j;
      made : (k : ℕ) → k < l.j → get_or l.row.items k 0 ≡ entry_of l.level (get_or l.columns k 0);
    }
