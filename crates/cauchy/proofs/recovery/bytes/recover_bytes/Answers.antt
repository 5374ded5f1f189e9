use Rattle.std.proofs.Common.{◌+◌, arith}
use Rattle.cauchy.specs.Elimination.{entries}
use Rattle.cauchy.proofs.SolvingLemmas.{RecoversWithin-then}
use Rattle.cauchy.proofs.recovery.bytes.recover_bytes.Goals as goal

pub loop-p-preserved : goal.loop-p-preserved
loop-p-preserved c =
    RecoversWithin-then c.args.start c.loop-p.p (c.loop-p.p + 1) c.args.block c.args.count (entries c.args.inverse.now) c.args.work.now c.loop-p.work c.recover_at.new.work
    (omega arith) (omega arith) (omega arith) c.loop-p.invariant c.recover_at.ensures
