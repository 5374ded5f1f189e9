use Rattle.std.proofs.Common.{◌≡◌, length, map, take}
use Rattle.std.specs.List.{range_with_len}
use Rattle.repair_scope.specs.Selected.{means_level}
use Rattle.repair_scope.proofs.selecting.scope_of.Given as goal

abbrev pub invariant-loop-level : goal.invariant-loop-level
invariant-loop-level l = (length l.levels ≡ 6) × (take l.level l.levels ≡ map (means_level l.selection) (range_with_len 0 l.level))
