use Rattle.std.proofs.Common.{length, sym, ◌∙◌, arith}
use Rattle.repair_scope.specs.Plan.{seen, selects_cell}
use Rattle.repair_scope.proofs.SelectLemmas.{any_at, none_more}
use Rattle.repair_scope.proofs.selecting.has_selected_cell.Goals as goal

pub returns-then-selects_cell : goal.returns-then-selects_cell
returns-then-selects_cell c =
    let plan = seen c.args.plan.now in
    sym (any_at (selects_cell plan c.args.stripe) (length c.args.plan.now.table.now.columns) c.loop-d.d (omega arith) (sym c.selects_cell.ensures ∙ c.if-selects_cell.true))

pub loop-d-preserved : goal.loop-d-preserved
loop-d-preserved c =
    let plan = seen c.args.plan.now in
    none_more (selects_cell plan c.args.stripe) c.loop-d.d c.loop-d.invariant (sym c.selects_cell.ensures ∙ c.if-selects_cell.false)
