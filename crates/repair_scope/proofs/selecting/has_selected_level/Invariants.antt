use Rattle.std.proofs.Common.{◌≡◌, false}
use Rattle.std.specs.List.{range_with_len, list_any}
use Rattle.repair_scope.specs.Plan.{seen, selects_level}
use Rattle.repair_scope.proofs.selecting.has_selected_level.Given as goal

abbrev pub invariant-loop-level : goal.invariant-loop-level
invariant-loop-level l = list_any (selects_level (seen l.plan) l.stripe) (range_with_len 0 l.level) ≡ false
