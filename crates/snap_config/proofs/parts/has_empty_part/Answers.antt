use Rattle.snap_config.proofs.PartsLemmas.{left-empty, left-last, left-next, left-start}
use Rattle.snap_config.proofs.parts.has_empty_part.Goals as goal

pub loop-part-init : goal.loop-part-init
loop-part-init c = left-start c.args.line.now c.utf8.line

pub loop-part-preserved : goal.loop-part-preserved
loop-part-preserved c = left-next c.args.line.now c.loop-part.rest.now _ _ c.loop-part.invariant c.in-Some.ensures c.if-is_empty.ensures

pub returns : goal.returns
returns c = left-last c.args.line.now c.loop-part.rest.now _ c.loop-part.invariant c.in_default.ensures c.is_empty-2.ensures
