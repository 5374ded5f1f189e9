use Rattle.snap_config.proofs.PartsLemmas.{names-last, names-next}
use Rattle.snap_config.proofs.parts.part_names.Goals as goal

pub loop-part-preserved : goal.loop-part-preserved
loop-part-preserved c =
    names-next c.args.line.now c.loop-part.rest.now _ _ _ _ _ c.loop-part.invariant c.in-Some.ensures c.in_ok-file_name.ensures c.in_ok-push.ensures.items

pub returns : goal.returns
returns c =
    names-last c.args.line.now c.loop-part.rest.now _ _ _ c.loop-part.invariant c.in_default.ensures c.in_ok-file_name-2.ensures c.in_ok-push-2.ensures.items
