use Rattle.snap_report.proofs.ToldLemmas.{told_nothing}
use Rattle.file_restorer.proofs.GoesOnLemmas.{handed_on}
use Rattle.snap_fix.proofs.RepairWriteLemmas.{block_written, block_lost}
use Rattle.snap_fix.proofs.repairing.cells.write_cell.Goals as goal

pub returns-then-written-clause-written : goal.returns-then-written-clause-written
returns-then-written-clause-written g c =
    block_written _ _ _ c.args.table.now c.args.at.stripe c.args.at.disk c.args.at.cell c.args.bytes.now _ _ _ _ _ _ c.requires.can _ _ _ _ _ c.in_ok-written.ensures.mended c.if-written.true c.tell.ensures

pub returns-clause-written : goal.returns-clause-written
returns-clause-written g c =
    block_lost _ _ _ c.args.table.now c.args.at.stripe c.args.at.disk c.args.at.cell c.args.bytes.now _ _ _ _ _ _ c.requires.can _ _ _ _ _ c.in_ok-written.ensures.mended c.if-written.false _ c.lose.ensures c.tell-2.ensures

pub returns-in_err-written-clause-failed : goal.returns-in_err-written-clause-failed
returns-in_err-written-clause-failed g c =
    handed_on c.from_residual.result _ c.in_err-written.field-0.0 c.from_residual.ensures.1
    (record { told = told_nothing _ _ _ _ _ _; fails = c.in_err-written.ensures.failed })
