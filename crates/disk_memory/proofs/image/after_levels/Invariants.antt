use Rattle.std.proofs.Common.{◌≡◌, take}
use Rattle.disk_memory.specs.Choice.{after_levels}
use Rattle.disk_memory.proofs.image.after_levels.Given as goal

abbrev pub invariant-loop-level : goal.invariant-loop-level
invariant-loop-level l = l.rest ≡ after_levels (take l.level-index l.levels) l.choice
