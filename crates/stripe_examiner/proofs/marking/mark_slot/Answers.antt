use Rattle.std.proofs.Common.{ap₂, ◌∙◌}
use Rattle.stripe_examiner.specs.Marks.{mark_of_cell}
use Rattle.stripe_examiner.proofs.KeptCellLemmas.{kept_cell}
use Rattle.stripe_examiner.proofs.marking.mark_slot.Goals as goal

pub cell_finding-requires-clause-cell : goal.cell_finding-requires-clause-cell
cell_finding-requires-clause-cell g c =
    kept_cell c.args.survey.now.plan.table.now c.args.stripe c.args.i c.args.d c.args.window.now c.requires.can.cells c.requires.column _ c.table_cell.ensures c.in-Some.cell c.in-Some.is

pub is_damaged-damaged-requires-clause-cell : goal.is_damaged-damaged-requires-clause-cell
is_damaged-damaged-requires-clause-cell g c =
    kept_cell c.args.survey.now.plan.table.now c.args.stripe c.args.i c.args.d c.args.window.now c.requires.can.cells c.requires.column _ c.table_cell.ensures c.in-Some.cell c.in-Some.is

pub mark_column-column-requires-clause-cell : goal.mark_column-column-requires-clause-cell
mark_column-column-requires-clause-cell g c =
    kept_cell c.args.survey.now.plan.table.now c.args.stripe c.args.i c.args.d c.args.window.now c.requires.can.cells c.requires.column _ c.table_cell.ensures c.in-Some.cell c.in-Some.is

pub returns-clause-cell : goal.returns-clause-cell
returns-clause-cell g c = c.mark_cell-mark.ensures ∙ ap₂ mark_of_cell c.is_damaged-damaged.ensures (c.is_sought.ensures c.args.d)
