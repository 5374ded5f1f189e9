use Rattle.std.proofs.Common.{◌≡◌}
use Rattle.stripe_findings.specs.Reading.{reading_at}
use Rattle.snap_sync.proofs.HashLemmas.{hashed_to}
use Rattle.snap_sync.proofs.judging.closing.close_stripe.Given as goal

abbrev pub invariant-loop-d : goal.invariant-loop-d
invariant-loop-d l = l.table ≡ hashed_to (reading_at l.stripes l.window l.i) l.d l.fn.table
