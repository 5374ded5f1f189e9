use Rattle.std.proofs.Common.{sym, ◌∙◌}
use Rattle.repair_scope.specs.Plan.{seen}
use Rattle.stripe_reader.specs.WindowValue.{slot_at}
use Rattle.stripe_examiner.proofs.FindingLemmas.{found_in_cell, found_in_none}
use Rattle.stripe_examiner.proofs.telling.cells.cell_finding.Goals as goal

pub returns-then-not-selects_record-clause-value : goal.returns-then-not-selects_record-clause-value
returns-then-not-selects_record-clause-value c =
    found_in_none (seen c.args.plan.now) c.args.stripe c.args.d c.args.cell (slot_at c.args.window.now c.args.i c.args.d)
    c.requires.cell.is (sym c.selects_record.ensures ∙ c.if-not-selects_record.true)

pub returns-clause-value : goal.returns-clause-value
returns-clause-value c =
    found_in_cell (seen c.args.plan.now) c.args.stripe c.args.d c.args.cell _
    (slot_at c.args.window.now c.args.i c.args.d) _ _ _
    c.requires.cell.is (sym c.selects_record.ensures ∙ c.if-not-selects_record.false) c.entry_of-entry.ensures c.cell.ensures c.digest.ensures c.read_finding.ensures.value
