use Rattle.std.proofs.Common.{◌≡◌}
use Rattle.snap_sync.specs.Closing.{closed}
use Rattle.stripe_findings.proofs.SlotLemmas.{readings_to}
use Rattle.snap_sync.proofs.judging.closing.close_chosen.Given as goal

abbrev pub invariant-loop-i : goal.invariant-loop-i
invariant-loop-i l = l.table ≡ closed l.now l.fn.table (readings_to l.stripes l.window l.i)
