use Rattle.std.proofs.Common.{arith}
use Rattle.position_alloc.proofs.LowestLemmas.{lowest_lt}
use Rattle.position_alloc.proofs.free_list.FreeList.take.Goals as goal

pub mark-requires-clause-below : goal.mark-requires-clause-below
mark-requires-clause-below c = omega (arith, c.first_free-p.ensures.is, lowest_lt c.args.self.now 67108864 c.requires)

pub mark-requires-clause-free : goal.mark-requires-clause-free
mark-requires-clause-free c = c.first_free-p.ensures.lowest.free
