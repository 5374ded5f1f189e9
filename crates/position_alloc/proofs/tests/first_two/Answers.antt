use Rattle.std.proofs.Common.{arith, rules}
use Rattle.std.specs.FinSet.{members}
use Rattle.position_alloc.proofs.tests.first_two.Goals as goal

pub take-requires : goal.take-requires
take-requires c = grind (arith, members, rules)

pub take-requires-2 : goal.take-requires-2
take-requires-2 c = grind (arith, members, rules)
