use Rattle.std.proofs.Common.{length}
use Rattle.array_setup.proofs.PathLemmas.{IsBelowLeft}
use Rattle.array_setup.proofs.matching.fits_below.Given as goal

abbrev pub invariant-loop-part : goal.invariant-loop-part
invariant-loop-part l = IsBelowLeft l.pattern l.path l.wanted l.rest

abbrev pub decreases-loop-part : goal.decreases-loop-part
decreases-loop-part l = length l.rest
