use Rattle.std.proofs.Common.{length}
use Rattle.snap_config.proofs.PartsLemmas.{AreLeft}
use Rattle.snap_config.proofs.parts.has_empty_part.Given as goal

abbrev pub invariant-loop-part : goal.invariant-loop-part
invariant-loop-part l = AreLeft l.line l.rest

abbrev pub decreases-loop-part : goal.decreases-loop-part
decreases-loop-part l = length l.rest
