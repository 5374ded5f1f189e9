use Rattle.std.proofs.Common.{◌≡◌, false}
use Rattle.std.specs.List.{range_with_len, list_any}
use Rattle.repair_scope.specs.Plan.{seen, selects_cell}
use Rattle.repair_scope.proofs.selecting.has_selected_cell.Given as goal

abbrev pub invariant-loop-d : goal.invariant-loop-d
invariant-loop-d l = list_any (selects_cell (seen l.plan) l.stripe) (range_with_len 0 l.d) ≡ false
