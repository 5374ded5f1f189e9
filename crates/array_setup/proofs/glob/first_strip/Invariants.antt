use Rattle.std.proofs.Common.{length}
use Rattle.array_setup.proofs.GlobLemmas.{IsFirstStripped}
use Rattle.array_setup.proofs.glob.first_strip.Given as goal

abbrev pub invariant-loop-left : goal.invariant-loop-left
invariant-loop-left l = IsFirstStripped l.part l.name l.rest

abbrev pub decreases-loop-left : goal.decreases-loop-left
decreases-loop-left l = length l.rest
