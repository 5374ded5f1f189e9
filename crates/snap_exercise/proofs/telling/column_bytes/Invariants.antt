use Rattle.std.proofs.Common.{◌≡◌, ◌*◌, ◌≤◌, sum_by}
use Rattle.std.specs.List.{range_with_len}
use Rattle.snap_exercise.specs.Generated.{size_of}
use Rattle.snap_exercise.proofs.telling.column_bytes.Given as goal

-- the bytes of the files so far, which are few
abbrev pub invariant-loop-file : goal.invariant-loop-file
invariant-loop-file l = (l.bytes ≡ sum_by (size_of l.fn.column) (range_with_len 0 l.file)) × (l.bytes ≤ 2100 * l.file)
