use Rattle.std.proofs.Common.{length}
use Rattle.array_setup.proofs.GlobLemmas.{IsStripped}
use Rattle.array_setup.proofs.glob.strip.Given as goal

abbrev pub invariant-loop-first : goal.invariant-loop-first
invariant-loop-first l = IsStripped l.part l.name l.wanted l.rest

abbrev pub decreases-loop-first : goal.decreases-loop-first
decreases-loop-first l = length l.wanted
