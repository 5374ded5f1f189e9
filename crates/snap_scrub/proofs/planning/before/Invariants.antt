use Rattle.std.proofs.Common.{◌≡◌, take}
use Rattle.std.specs.Prelude.{nat_lt, filter}
use Rattle.snap_scrub.specs.Order.{order_in}
use Rattle.snap_scrub.proofs.planning.before.Given as goal

abbrev pub invariant-loop-stripe : goal.invariant-loop-stripe
invariant-loop-stripe l = l.kept.items ≡ filter (λ stripe. nat_lt (order_in l.table.infos stripe) l.end) (take l.stripe-index l.stripes)
