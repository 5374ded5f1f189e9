use Rattle.std.proofs.Common.{◌≡◌, length, take}
use Rattle.cauchy.specs.Matrix.{parity_of as level_of}
use Rattle.parity_writer.specs.WindowRow.{row_at}
use Rattle.parity_writer.proofs.sums.sum_row.Given as goal

-- the sum of the columns so far
abbrev pub invariant-loop-d : goal.invariant-loop-d
invariant-loop-d l = l.out ≡ level_of l.level (length l.fn.out) (take l.d (row_at l.window l.i))
