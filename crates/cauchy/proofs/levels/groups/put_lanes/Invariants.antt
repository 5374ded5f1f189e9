use Rattle.std.proofs.Common.{◌+◌, ℕ, List}
use Rattle.cauchy.specs.Levels.{HoldLanes, FillsWithin}
use Rattle.cauchy.proofs.levels.groups.put_lanes.Given as goal

abbrev pub invariant-loop-r : goal.invariant-loop-r
invariant-loop-r g l =
    (row : List (List ℕ)) → HoldLanes g.row.N l.start row l.lanes → FillsWithin l.start (l.start + l.width) l.r g.row.N l.size row l.initial.out l.out
