use Rattle.std.proofs.Common.{arith, rules}
use Rattle.std.specs.FinSet.{members}
use Rattle.position_alloc.proofs.tests.lowest_ones.Goals as goal

pub mark-requires-clause-free : goal.mark-requires-clause-free
mark-requires-clause-free c = grind (arith, members, rules)

pub mark-requires-2-clause-free : goal.mark-requires-2-clause-free
mark-requires-2-clause-free c = grind (arith, members, rules)

pub mark-requires-3-clause-free : goal.mark-requires-3-clause-free
mark-requires-3-clause-free c = grind (arith, members, rules)

pub mark-requires-4-clause-free : goal.mark-requires-4-clause-free
mark-requires-4-clause-free c = grind (arith, members, rules)

pub give-requires : goal.give-requires
give-requires c = grind (arith, members, rules)
