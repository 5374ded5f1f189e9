use Rattle.std.proofs.Common.{arith}
use Rattle.cauchy.proofs.LevelsLemmas.{StoresFrom-none, StoresFrom-more}
use Rattle.cauchy.proofs.lanes.store_few.Goals as goal

pub loop-k-init : goal.loop-k-init
loop-k-init c = StoresFrom-none c.args.start _ c.args.out.now

pub loop-k-preserved : goal.loop-k-preserved
loop-k-preserved c = StoresFrom-more c.args.start c.loop-k.k _ c.args.out.now c.loop-k.out (omega arith) c.loop-k.invariant
