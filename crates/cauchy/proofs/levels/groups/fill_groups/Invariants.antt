use Rattle.std.proofs.Common.{◌*◌}
use Rattle.cauchy.specs.Levels.{blocks_of}
use Rattle.cauchy.proofs.LevelsLemmas.{FilledBelow}
use Rattle.cauchy.proofs.levels.groups.fill_groups.Given as goal

abbrev pub invariant-loop-group : goal.invariant-loop-group
invariant-loop-group g l = FilledBelow (32 * l.group) g.row.N l.size (blocks_of l.blocks) l.out
