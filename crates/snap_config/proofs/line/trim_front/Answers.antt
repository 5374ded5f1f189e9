use Rattle.std.proofs.Common.{sym, ◌∙◌}
use Rattle.snap_config.proofs.LineLemmas.{front_boundary, front-next, front-done}
use Rattle.snap_config.proofs.line.trim_front.Goals as goal

pub range_from-rest-requires : goal.range_from-rest-requires
range_from-rest-requires c = λ _. front_boundary c.loop-rest.rest.now c.loop-rest.invariant.rest_text (sym c.starts_with_blank.ensures ∙ c.loop-rest-test.true)

pub loop-rest-preserved : goal.loop-rest-preserved
loop-rest-preserved c =
    rw c.range_from-rest.ensures.value (front-next c.args.text.now c.loop-rest.rest.now c.loop-rest.invariant (sym c.starts_with_blank.ensures ∙ c.loop-rest-test.true))

pub returns : goal.returns
returns c = front-done c.args.text.now c.loop-rest.rest.now c.loop-rest.invariant (sym c.starts_with_blank.ensures ∙ c.loop-rest-test.false)
