use Rattle.disk_model.proofs.UntouchedLemmas.{untouched_here, untouched_then}
use Rattle.parity_split.proofs.UntouchedLemmas.{within_untouched}
use Rattle.parity_split.proofs.ahead.plan.Goals as goal

pub loop-part-init : goal.loop-part-init
loop-part-init g c = record { same = untouched_here _; within = c.requires }

pub loop-part-preserved : goal.loop-part-preserved
loop-part-preserved g c = record {
  same = untouched_then _ _ _ c.loop-part.invariant.same c.plan_piece.ensures;
  within = within_untouched c.args.parts _ _ c.plan_piece.ensures c.loop-part.invariant.within;
}
