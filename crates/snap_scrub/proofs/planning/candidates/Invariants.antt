use Rattle.std.proofs.Common.{◌≡◌}
use Rattle.std.specs.Prelude.{filter}
use Rattle.std.specs.List.{range_with_len}
use Rattle.snap_scrub.specs.Plan.{is_candidate}
use Rattle.snap_scrub.proofs.planning.candidates.Given as goal

abbrev pub invariant-loop-stripe : goal.invariant-loop-stripe
invariant-loop-stripe l = l.stripes.items ≡ filter (is_candidate l.table) (range_with_len 0 l.stripe)
