use Rattle.cauchy.specs.Elimination.{entries}
use Rattle.cauchy.specs.Solving.{RecoversWithin}
use Rattle.cauchy.proofs.recovery.bytes.recover_bytes.Given as goal

abbrev pub invariant-loop-p : goal.invariant-loop-p
invariant-loop-p l = RecoversWithin l.start l.p l.count l.block l.count (entries l.inverse) l.initial.work l.work
