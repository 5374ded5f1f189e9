use Rattle.std.proofs.Common.{◌≡◌, ◌-◌, length, take, sym, ◌∙◌, arith}
use Rattle.std.proofs.lemmas.Grind.{common_steps}
use Rattle.snap_config.proofs.LineLemmas.{blank_end, end-next, end-done}
use Rattle.snap_config.proofs.line.trim_end.Goals as goal

pub range-rest-requires-clause-end_boundary : goal.range-rest-requires-clause-end_boundary
range-rest-requires-clause-end_boundary c = (blank_end c.loop-rest.rest.now c.loop-rest.invariant.rest_text (sym c.ends_with_blank.ensures ∙ c.loop-rest-test.true)).boundary

pub loop-rest-preserved : goal.loop-rest-preserved
loop-rest-preserved c =
    let taken : c.range-rest.result.now ≡ take (length c.loop-rest.rest.now - 1) c.loop-rest.rest.now = grind (arith, common_steps, c.range-rest.ensures.value) in
    end-next c.args.text.now c.loop-rest.rest.now c.range-rest.result.now c.loop-rest.invariant (sym c.ends_with_blank.ensures ∙ c.loop-rest-test.true) taken

pub returns : goal.returns
returns c = end-done c.args.text.now c.loop-rest.rest.now c.loop-rest.invariant (sym c.ends_with_blank.ensures ∙ c.loop-rest-test.false)
