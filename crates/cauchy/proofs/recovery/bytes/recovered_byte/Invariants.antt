use Rattle.std.proofs.Common.{◌≡◌, get_or}
use Rattle.cauchy.specs.Elimination.{entries}
use Rattle.cauchy.specs.Solving.{recovered}
use Rattle.cauchy.proofs.recovery.bytes.recovered_byte.Given as goal

abbrev pub invariant-loop-i : goal.invariant-loop-i
invariant-loop-i l = l.sum ≡ recovered (entries l.inverse) l.i (λ i. get_or l.given.items i 0) l.j
