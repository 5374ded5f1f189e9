use Rattle.std.proofs.Common.{length}
use Rattle.array_setup.proofs.GlobLemmas.{IsBehindStar}
use Rattle.array_setup.proofs.glob.fits_behind_star.Given as goal

abbrev pub invariant-loop-part : goal.invariant-loop-part
invariant-loop-part l = IsBehindStar l.pattern l.name l.parts l.rest

abbrev pub decreases-loop-part : goal.decreases-loop-part
decreases-loop-part l = length l.parts
