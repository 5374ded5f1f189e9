use Rattle.std.proofs.Common.{length}
use Rattle.snap_config.proofs.LineLemmas.{IsTrimmedFront}
use Rattle.snap_config.proofs.line.trim_front.Given as goal

abbrev pub invariant-loop-rest : goal.invariant-loop-rest
invariant-loop-rest l = IsTrimmedFront l.text l.rest

abbrev pub decreases-loop-rest : goal.decreases-loop-rest
decreases-loop-rest l = length l.rest
