use Rattle.std.proofs.Common.{length}
use Rattle.snap_top.proofs.DupLemmas.{AreTold}
use Rattle.snap_top.proofs.dup.put_pairs.Given as goal

abbrev pub invariant-loop-pair : goal.invariant-loop-pair
invariant-loop-pair g l = AreTold g.W.Sink.view l.table.columns l.fn.pairs l.pairs l.count l.fn.lines l.lines

abbrev pub decreases-loop-pair : goal.decreases-loop-pair
decreases-loop-pair g l = length l.pairs
