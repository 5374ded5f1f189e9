use Rattle.std.proofs.Common.{sym, arith}
use Rattle.gf256.proofs.ProductLemmas.{product_lt}
use Rattle.gf256.proofs.ShiftLemmas.{twice_small, twice_large}
use Rattle.gf256.proofs.field.tests.doubled.Goals as goal

pub overflow_cast-result-else-twice-lt256 : goal.overflow_cast-result-else-twice-lt256
overflow_cast-result-else-twice-lt256 c =
    omega (arith, twice_large c.args.a (omega arith) (omega arith), product_lt 2 c.args.a (omega arith) (omega arith))

pub returns-then-twice-lt256 : goal.returns-then-twice-lt256
returns-then-twice-lt256 c = sym (twice_small c.args.a (omega arith))

pub returns-else-twice-lt256 : goal.returns-else-twice-lt256
returns-else-twice-lt256 c = sym (twice_large c.args.a (omega arith) (omega arith))
