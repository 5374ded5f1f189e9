use Rattle.std.proofs.Common.{length}
use Rattle.array_setup.proofs.PathLemmas.{IsDirectoryLeft}
use Rattle.array_setup.proofs.matching.fits_directory.Given as goal

abbrev pub invariant-loop-component : goal.invariant-loop-component
invariant-loop-component l = IsDirectoryLeft l.pattern l.path l.rest

abbrev pub decreases-loop-component : goal.decreases-loop-component
decreases-loop-component l = length l.rest
