use Rattle.std.proofs.Common.{length}
use Rattle.snap_config.proofs.PartsLemmas.{AreNamed}
use Rattle.snap_config.proofs.parts.part_names.Given as goal

abbrev pub invariant-loop-part : goal.invariant-loop-part
invariant-loop-part l = AreNamed l.line l.names.items l.rest

abbrev pub decreases-loop-part : goal.decreases-loop-part
decreases-loop-part l = length l.rest
