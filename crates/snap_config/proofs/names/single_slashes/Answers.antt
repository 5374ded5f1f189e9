use Rattle.std.proofs.Common.{◌∙◌}
use Rattle.snap_config.proofs.NamesLemmas.{made-next, made-done}
use Rattle.snap_config.proofs.names.single_slashes.Goals as goal

pub loop-part-preserved : goal.loop-part-preserved
loop-part-preserved c = made-next c.args.text.now _ c.loop-part.rest.now _ _ _ _ c.loop-part.invariant c.in-Some.ensures c.in_ok-push_part.ensures

pub returns : goal.returns
returns c = c.in_ok-push_str.ensures.bytes ∙ made-done c.args.text.now _ c.loop-part.rest.now _ c.loop-part.invariant c.in_default.ensures
