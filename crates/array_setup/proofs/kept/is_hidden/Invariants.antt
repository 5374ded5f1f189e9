use Rattle.std.proofs.Common.{length}
use Rattle.array_setup.proofs.KeepsLemmas.{IsHiddenLeft}
use Rattle.array_setup.proofs.kept.is_hidden.Given as goal

abbrev pub invariant-loop-rest : goal.invariant-loop-rest
invariant-loop-rest l = IsHiddenLeft l.path l.rest

abbrev pub decreases-loop-rest : goal.decreases-loop-rest
decreases-loop-rest l = length l.rest
