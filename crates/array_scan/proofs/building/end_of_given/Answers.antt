use Rattle.std.proofs.Common.{◌∙◌}
use Rattle.array_scan.proofs.EndLemmas.{one_position}
use Rattle.array_scan.proofs.building.end_of_given.Goals as goal

pub loop-position-preserved : goal.loop-position-preserved
loop-position-preserved c = c.max-end.ensures ∙ one_position c.args.end c.loop-position.end c.args.positions.now c.loop-position.position-index 0 c.loop-position-test.true c.loop-position.invariant
