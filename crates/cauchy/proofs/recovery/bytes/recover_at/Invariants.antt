use Rattle.std.proofs.Common.{◌+◌}
use Rattle.cauchy.specs.Elimination.{entries}
use Rattle.cauchy.specs.Solving.{RecoversWithin}
use Rattle.cauchy.proofs.recovery.bytes.recover_at.Given as goal

abbrev pub invariant-loop-j : goal.invariant-loop-j
invariant-loop-j l = RecoversWithin l.p (l.p + 1) l.j l.block l.count (entries l.inverse) l.initial.work l.work
