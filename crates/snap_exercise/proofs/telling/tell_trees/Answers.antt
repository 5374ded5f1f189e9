use Rattle.std.proofs.Common.{sym, ap}
use Rattle.snap_exercise.specs.Exercise.{trees_line}
use Rattle.snap_report.proofs.PutsLemmas.{puts_same}
use Rattle.snap_exercise.proofs.telling.tell_trees.Goals as goal

pub returns-then-same : goal.returns-then-same
returns-then-same g c = puts_same _ _ _ _ _ c.put_all.ensures (sym (ap trees_line c.if-same.true))
