use Rattle.std.proofs.Common.{length}
use Rattle.array_setup.proofs.GlobLemmas.{IsLeft}
use Rattle.array_setup.proofs.glob.fits_end.Given as goal

abbrev pub invariant-loop-before : goal.invariant-loop-before
invariant-loop-before l = IsLeft l.part l.name l.wanted l.rest

abbrev pub decreases-loop-before : goal.decreases-loop-before
decreases-loop-before l = length l.wanted
