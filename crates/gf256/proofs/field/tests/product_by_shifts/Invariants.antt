use Rattle.std.proofs.Common.{◌≡◌}
use Rattle.std.specs.Int.Bits.{bit_xor}
use Rattle.gf256.specs.Field.{product}
use Rattle.gf256.proofs.field.tests.product_by_shifts.Given as goal

abbrev pub invariant-loop-rest : goal.invariant-loop-rest
invariant-loop-rest l = bit_xor l.sum (product l.shifted l.rest) ≡ product l.a l.b

abbrev pub decreases-loop-rest : goal.decreases-loop-rest
decreases-loop-rest l = l.rest
