use Rattle.std.proofs.Common.{ap}
use Rattle.snap_report.specs.StatusText.{check_at, lesser}
use Rattle.snap_report.proofs.StripesLemmas.{least_more}
use Rattle.snap_report.proofs.stripes.oldest.Goals as goal

pub loop-stripe-preserved : goal.loop-stripe-preserved
loop-stripe-preserved c = let more = least_more (check_at c.args.table.now) c.loop-stripe.stripe in rw (more, c.lesser_of-oldest.ensures, c.last_check.ensures) (ap (λ o. lesser o (check_at c.args.table.now c.loop-stripe.stripe)) c.loop-stripe.invariant)
