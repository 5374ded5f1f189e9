use Rattle.std.proofs.Common.{ℕ, ◌+◌}
use Rattle.cauchy.specs.Solving.{AreTablesOf, RecoversWithin}
use Rattle.cauchy.proofs.recovery.groups.recover_group.Given as goal

abbrev pub invariant-loop-j : goal.invariant-loop-j
invariant-loop-j l =
    (m : ℕ → ℕ → ℕ) → AreTablesOf l.count m l.tables → RecoversWithin l.p (l.p + 32) l.j l.block l.count m l.initial.work l.work
