use Rattle.std.proofs.Common.{◌≡◌, length, take}
use Rattle.cauchy.specs.Levels.{blocks_of}
use Rattle.parity_writer.specs.WindowRow.{row_at}
use Rattle.parity_writer.proofs.sums.sum_levels.Given as goal

-- the columns so far
abbrev pub invariant-loop-d : goal.invariant-loop-d
invariant-loop-d l =
    record {
      long : length l.row ≡ 251;
      row : blocks_of (take l.d l.row) ≡ take l.d (row_at l.window l.i);
    }
