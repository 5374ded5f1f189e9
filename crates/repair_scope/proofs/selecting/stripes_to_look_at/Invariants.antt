use Rattle.std.proofs.Common.{◌≡◌}
use Rattle.std.specs.Prelude.{filter}
use Rattle.std.specs.List.{range_with_len}
use Rattle.repair_scope.specs.Plan.{seen, is_looked_at}
use Rattle.repair_scope.proofs.selecting.stripes_to_look_at.Given as goal

abbrev pub invariant-loop-stripe : goal.invariant-loop-stripe
invariant-loop-stripe l = l.stripes.items ≡ filter (is_looked_at (seen l.plan)) (range_with_len 0 l.stripe)
