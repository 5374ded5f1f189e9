use Rattle.std.proofs.Common.{subst}
use Rattle.snap_top_restores.specs.Reached.{TellsOneFixed}
use Rattle.snap_top_restores.proofs.reached.fix_one_block.Goals as goal

pub returns-clause-printed : goal.returns-clause-printed
returns-clause-printed g c = subst TellsOneFixed c.as_slice.ensures.value (c.tells_one_fixed.ensures c.if-not-tells_one_fixed.false)
