use Rattle.std.proofs.Common.{◌≡◌, ◌≤◌, ◌-◌, arith}
use Rattle.std.specs.Int.Bits.{bit_xor}
use Rattle.gf256.specs.Field.{power, inverse}
use Rattle.gf256.proofs.Theorems.{power_positive}
use Rattle.cauchy.specs.Matrix.{entry_of}
use Rattle.cauchy.proofs.MatrixLemmas.{denominator_positive, entry_quotient}
use Rattle.cauchy.proofs.matrix.entry.Goals as goal

pub inv-requires : goal.inv-requires
inv-requires c = omega (arith, c.pow2-in_default-2.ensures, power_positive c.args.c)

pub div-requires : goal.div-requires
div-requires c =
    let low : 2 ≤ c.args.r = omega arith in
    let same : bit_xor c.inv.result c.pow2-in_default-3.result ≡ bit_xor (inverse (power c.args.c)) (power (c.args.r - 1)) = cc in
    omega (arith, denominator_positive c.args.r c.args.c low c.requires.level c.requires.column)

pub returns-in-0 : goal.returns-in-0
unfolding entry_of
returns-in-0 c = rw c.in-0.is

pub returns-in-1 : goal.returns-in-1
unfolding entry_of
returns-in-1 c = rw c.in-1.is c.pow2.ensures

pub returns-in_default : goal.returns-in_default
returns-in_default c =
    let low : 2 ≤ c.args.r = omega arith in
    let entry_is = entry_quotient c.args.c c.args.r c.requires.level low in
    cc
