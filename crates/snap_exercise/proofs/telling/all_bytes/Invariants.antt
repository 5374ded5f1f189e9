use Rattle.std.proofs.Common.{◌≡◌, ◌*◌, ◌≤◌, sum_by}
use Rattle.std.specs.List.{range_with_len}
use Rattle.snap_exercise.specs.Exercise.{bytes_in}
use Rattle.snap_exercise.proofs.telling.all_bytes.Given as goal

-- the bytes of the columns so far, which are few
abbrev pub invariant-loop-column : goal.invariant-loop-column
invariant-loop-column l = (l.bytes ≡ sum_by (bytes_in l.fn.n) (range_with_len 0 l.column)) × (l.bytes ≤ 2100000 * l.column)
