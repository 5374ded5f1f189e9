use Rattle.std.proofs.Common.{◌*◌, ◌<◌, ℕ, get_or}
use Rattle.cauchy.specs.Elimination.{entries}
use Rattle.cauchy.specs.Solving.{RecoversWithin}
use Rattle.cauchy.proofs.recovery.groups.recover_groups.Given as goal

abbrev pub invariant-loop-group : goal.invariant-loop-group
invariant-loop-group l =
    record {
      done : RecoversWithin 0 (32 * l.group) l.count l.block l.count (entries l.inverse) l.initial.work l.work;
      given : (k : ℕ) → get_or l.initial.work k 0 < 256;
    }
