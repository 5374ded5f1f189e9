use Rattle.std.proofs.Common.{◌+◌, ℕ, List, length, get_or}
use Rattle.cauchy.specs.Lanes.{HasLanes}
use Rattle.cauchy.specs.Levels.{AreColumnTables, HoldLanes}
use Rattle.cauchy.proofs.LevelsLemmas.{AddedTo}
use Rattle.cauchy.proofs.levels.groups.add_lanes.Given as goal

abbrev pub invariant-loop-r : goal.invariant-loop-r
invariant-loop-r g l =
    (row : List (List ℕ)) (block : List ℕ) (start : ℕ) → AreColumnTables g.row.N (length row) l.tables → HasLanes l.bytes (λ k. get_or block (start + k) 0)
    → HoldLanes g.row.N start row l.fn.levels → AddedTo l.r g.row.N start row block l.levels
