use Rattle.std.proofs.Common.{arith}
use Rattle.snap_exercise.specs.Exercise.{bytes_in}
use Rattle.snap_exercise.proofs.TellingLemmas.{sum_more}
use Rattle.snap_exercise.proofs.telling.all_bytes.Goals as goal

pub loop-column-preserved : goal.loop-column-preserved
loop-column-preserved c = (
  omega (arith, c.loop-column.invariant.0, c.column_bytes-bytes.ensures.sum, sum_more (bytes_in c.args.n) c.loop-column.column),
  omega (arith, c.loop-column.invariant.1, c.column_bytes-bytes.ensures.few),
)
