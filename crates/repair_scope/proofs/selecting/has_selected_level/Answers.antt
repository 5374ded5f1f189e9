use Rattle.std.proofs.Common.{sym, ap, ◌∙◌, arith}
use Rattle.repair_scope.specs.Plan.{seen, selects_level}
use Rattle.repair_scope.proofs.SelectLemmas.{any_at, none_more}
use Rattle.repair_scope.proofs.selecting.has_selected_level.Goals as goal

pub returns-then-selects_level : goal.returns-then-selects_level
returns-then-selects_level c =
    let plan = seen c.args.plan.now in
    sym (any_at (selects_level plan c.args.stripe) c.args.plan.now.table.now.shape.levels c.loop-level.level (omega (arith, c.loop-level-test.true, ap (λ shape. shape.levels) c.shape-level-end.ensures.shape)) (sym c.selects_level.ensures ∙ c.if-selects_level.true))

pub loop-level-preserved : goal.loop-level-preserved
loop-level-preserved c =
    let plan = seen c.args.plan.now in
    none_more (selects_level plan c.args.stripe) c.loop-level.level c.loop-level.invariant (sym c.selects_level.ensures ∙ c.if-selects_level.false)
