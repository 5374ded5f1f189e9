use Rattle.std.proofs.Common.{◌≡◌, map}
use Rattle.std.specs.List.{range_with_len}
use Rattle.snap_report.specs.StatusText.{check_at, least}
use Rattle.snap_report.proofs.stripes.oldest.Given as goal

abbrev pub invariant-loop-stripe : goal.invariant-loop-stripe
invariant-loop-stripe l = l.oldest ≡ least (map (check_at l.table) (range_with_len 0 l.stripe))
