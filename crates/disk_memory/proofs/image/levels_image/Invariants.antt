use Rattle.std.proofs.Common.{◌≡◌, take}
use Rattle.disk_memory.specs.Choice.{levels_image, after_levels}
use Rattle.disk_memory.proofs.image.levels_image.Given as goal

abbrev pub invariant-loop-level : goal.invariant-loop-level
invariant-loop-level l = (l.images.items ≡ levels_image (take l.level-index l.levels) l.choice) × (l.rest ≡ after_levels (take l.level-index l.levels) l.choice)
