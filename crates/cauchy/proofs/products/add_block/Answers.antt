use Rattle.std.proofs.Common.{get_or, arith}
use Rattle.std.proofs.lemmas.Grind.{common_steps}
use Rattle.gf256.proofs.Theorems.{one_times}
use Rattle.cauchy.proofs.products.add_block.Goals as goal

pub loop-i-preserved : goal.loop-i-preserved
loop-i-preserved c = grind (arith, common_steps, one_times (get_or c.args.block.now c.loop-i.i 0) (omega (arith, c.type_inv.block c.loop-i.i)))
