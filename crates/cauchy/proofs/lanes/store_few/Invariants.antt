use Rattle.std.proofs.Common.{get_or}
use Rattle.cauchy.specs.Lanes.{StoresFrom}
use Rattle.cauchy.proofs.lanes.store_few.Given as goal

abbrev pub invariant-loop-k : goal.invariant-loop-k
invariant-loop-k l = StoresFrom l.start l.k (λ q. get_or l.bytes q 0) l.initial.out l.out
