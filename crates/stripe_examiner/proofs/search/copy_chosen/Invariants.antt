use Rattle.std.proofs.Common.{◌≡◌, ◌*◌, take}
use Rattle.stripe_examiner.specs.Search.{given}
use Rattle.stripe_examiner.proofs.search.copy_chosen.Given as goal

abbrev pub invariant-loop-i : goal.invariant-loop-i
invariant-loop-i l = take (l.i * l.size) l.out ≡ given l.size l.remainders (take l.i l.choice)
