use Rattle.std.proofs.Common.{length, take}
use Rattle.cauchy.specs.Levels.{blocks_of, AreEntryTables, HoldLanes}
use Rattle.cauchy.proofs.levels.groups.row_lanes.Given as goal

abbrev pub invariant-loop-c : goal.invariant-loop-c
invariant-loop-c g l = AreEntryTables g.row.N (length l.blocks) l.tables → HoldLanes g.row.N l.start (take l.c (blocks_of l.blocks)) l.levels
