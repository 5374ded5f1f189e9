use Rattle.std.proofs.Common.{arith}
use Rattle.snap_exercise.specs.Generated.{size_of}
use Rattle.snap_exercise.proofs.TellingLemmas.{sum_more}
use Rattle.snap_exercise.proofs.telling.column_bytes.Goals as goal

pub loop-file-preserved : goal.loop-file-preserved
loop-file-preserved c = (
  omega (arith, c.loop-file.invariant.0, c.size_of.ensures, sum_more (size_of c.args.column) c.loop-file.file),
  omega (arith, c.loop-file.invariant.1, c.size_of.ensures),
)
