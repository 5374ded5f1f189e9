use Rattle.std.proofs.Common.{ℕ, ◌<◌, refl, sym, subst, ap, ◌∙◌}
use Rattle.snap_report.proofs.ToldLemmas.{told_nothing}
use Rattle.stripe_examiner.specs.Marks.{mark_in}
use Rattle.stripe_examiner.specs.declared.marking.SlotMark.{SlotMark}
use Rattle.stripe_examiner.specs.Showing.{is_damaged_mark}
use Rattle.repair_scope.specs.Plan.{seen}
use Rattle.stripe_examiner.proofs.KeptCellLemmas.{kept_cell, kept_is}
use Rattle.snap_fix.specs.RepairSteps.{column_outside, is_repaired_by}
use Rattle.stripe_examiner.specs.Findings.{is_lost_by}
use Rattle.snap_fix.proofs.RepairCellLemmas.{column_stays, column_loses}
use Rattle.snap_fix.proofs.RepairWrittenLemmas.{can_write, column_not, column_written}
use Rattle.snap_fix.proofs.RepairMarkLemmas.{lost_stays, right_stays, none_stays}
use Rattle.snap_fix.proofs.AnswerLemmas.{if_ok, if_err}
use Rattle.snap_fix.proofs.repairing.cells.mend_column.Goals as goal

pub returns-then-not-is_damaged-clause-mended : goal.returns-then-not-is_damaged-clause-mended
returns-then-not-is_damaged-clause-mended g c =
    let plan = seen c.args.plan.now in
    let stays = right_stays plan c.args.one.now.stripe c.args.d (mark_in c.args.one.now.own.now.marks.items c.args.d) c.args.one.now.own.now.known (ap (λ (mark : SlotMark). is_damaged_mark mark.cell) (sym c.mark_of-mark.ensures) ∙ sym c.is_damaged.ensures ∙ c.if-not-is_damaged.true) in
    column_stays _ _ _ plan c.args.one.now.stripe c.args.one.now.slot c.args.d c.args.one.now.window.now c.args.one.now.own.now.marks.items c.args.one.now.own.now.known _ c.requires.mend stays.0 stays.1

pub returns-in_default-clause-mended : goal.returns-in_default-clause-mended
returns-in_default-clause-mended g c =
    let plan = seen c.args.plan.now in
    let stays = none_stays plan c.args.one.now.stripe c.args.d (mark_in c.args.one.now.own.now.marks.items c.args.d) c.args.one.now.own.now.known (sym (kept_is plan.table c.args.one.now.stripe c.args.one.now.slot c.args.d c.args.one.now.window.now c.requires.can.cells c.requires.mend.within _ c.table_cell.ensures) ∙ c.in_default.is) in
    column_stays _ _ _ plan c.args.one.now.stripe c.args.one.now.slot c.args.d c.args.one.now.window.now c.args.one.now.own.now.marks.items c.args.one.now.own.now.known _ c.requires.mend stays.0 stays.1

pub lose-requires-clause-rec : goal.lose-requires-clause-rec
lose-requires-clause-rec g c =
    let plan = seen c.args.plan.now in
    let its = kept_cell plan.table c.args.one.now.stripe c.args.one.now.slot c.args.d c.args.one.now.window.now c.requires.can.cells c.requires.mend.within _ c.table_cell.ensures c.in-Some.cell c.in-Some.is in
    subst (λ (n : ℕ). c.in-Some.cell.rec < n) (sym (c.requires.mend.states_fit.records c.args.d c.requires.mend.within)) its.rec_within

pub returns-then-is_lost-clause-mended : goal.returns-then-is_lost-clause-mended
returns-then-is_lost-clause-mended g c =
    let plan = seen c.args.plan.now in
    let its = kept_cell plan.table c.args.one.now.stripe c.args.one.now.slot c.args.d c.args.one.now.window.now c.requires.can.cells c.requires.mend.within _ c.table_cell.ensures c.in-Some.cell c.in-Some.is in
    let lost = ap (λ (mark : SlotMark). is_lost_by (seen c.args.plan.now) c.args.one.now.stripe mark c.args.one.now.own.now.known c.args.d) (sym c.mark_of-mark.ensures) ∙ sym c.is_lost.ensures ∙ c.if-is_lost.true in
    column_loses _ _ _ plan c.args.one.now.stripe c.args.one.now.slot c.args.d c.args.one.now.window.now c.args.one.now.own.now.marks.items c.args.one.now.own.now.known _ c.requires.mend
    (lost_stays plan c.args.one.now.stripe c.args.d (mark_in c.args.one.now.own.now.marks.items c.args.d) c.args.one.now.own.now.known lost)
    c.in-Some.cell its.is its.rec_within lost
    _ refl refl c.lose.ensures (told_nothing _ _ _ _ _ _)

pub returns-then-not-is_repaired-clause-mended : goal.returns-then-not-is_repaired-clause-mended
returns-then-not-is_repaired-clause-mended g c =
    let plan = seen c.args.plan.now in
    column_stays _ _ _ plan c.args.one.now.stripe c.args.one.now.slot c.args.d c.args.one.now.window.now c.args.one.now.own.now.marks.items c.args.one.now.own.now.known _ c.requires.mend
    (ap (λ (mark : SlotMark). is_repaired_by (seen c.args.plan.now) c.args.one.now.stripe mark c.args.one.now.own.now.known c.args.d) (sym c.mark_of-mark.ensures) ∙ sym c.is_repaired.ensures ∙ c.if-not-is_repaired.true) (ap (λ (mark : SlotMark). is_lost_by (seen c.args.plan.now) c.args.one.now.stripe mark c.args.one.now.own.now.known c.args.d) (sym c.mark_of-mark.ensures) ∙ sym c.is_lost.ensures ∙ c.if-is_lost.false)

pub write_cell-requires-clause-can : goal.write_cell-requires-clause-can
write_cell-requires-clause-can g c κs within =
    let plan = seen c.args.plan.now in
    let its = kept_cell plan.table c.args.one.now.stripe c.args.one.now.slot c.args.d c.args.one.now.window.now c.requires.can.cells c.requires.mend.within _ c.table_cell.ensures c.in-Some.cell c.in-Some.is in
    can_write g.W.Sink.view (λ b. (goal.Report-dyn g (b.vtable, b.value)).standing b.value) (λ b. (goal.Report-dyn g (b.vtable, b.value)).stands b.value) plan c.args.one.now.stripe c.args.one.now.slot c.args.d c.args.one.now.window.now c.args.one.now.own.now.marks.items c.args.one.now.own.now.known
    (column_outside c.args.starts.now c.args.states.now (g.F.Folder.view c.args.folder.now) c.args.lines.now c.args.reports.now.items) c.requires.mend
    c.in-Some.cell its.is its.rec_within (ap (λ (mark : SlotMark). is_repaired_by (seen c.args.plan.now) c.args.one.now.stripe mark c.args.one.now.own.now.known c.args.d) (sym c.mark_of-mark.ensures) ∙ sym c.is_repaired.ensures ∙ c.if-not-is_repaired.false)
    c.cell_bytes-bytes.result.now c.cell_bytes-bytes.ensures its.block_within

pub returns-clause-mended : goal.returns-clause-mended
returns-clause-mended g c =
    let plan = seen c.args.plan.now in
    let its = kept_cell plan.table c.args.one.now.stripe c.args.one.now.slot c.args.d c.args.one.now.window.now c.requires.can.cells c.requires.mend.within _ c.table_cell.ensures c.in-Some.cell c.in-Some.is in
    if_ok c.write_cell.result _ _
    (λ repaired writes. column_written _ _ _ plan c.args.one.now.stripe c.args.one.now.slot c.args.d c.args.one.now.window.now c.args.one.now.own.now.marks.items c.args.one.now.own.now.known _ c.requires.mend
    c.in-Some.cell its.is its.rec_within (ap (λ (mark : SlotMark). is_repaired_by (seen c.args.plan.now) c.args.one.now.stripe mark c.args.one.now.own.now.known c.args.d) (sym c.mark_of-mark.ensures) ∙ sym c.is_repaired.ensures ∙ c.if-not-is_repaired.false)
    c.cell_bytes-bytes.result.now c.cell_bytes-bytes.ensures _ repaired writes)
    c.write_cell.ensures.written

pub returns-clause-failed : goal.returns-clause-failed
returns-clause-failed g c =
    let plan = seen c.args.plan.now in
    let its = kept_cell plan.table c.args.one.now.stripe c.args.one.now.slot c.args.d c.args.one.now.window.now c.requires.can.cells c.requires.mend.within _ c.table_cell.ensures c.in-Some.cell c.in-Some.is in
    if_err c.write_cell.result _ _
    (λ fault fails. column_not _ _ _ plan c.args.one.now.stripe c.args.one.now.slot c.args.d c.args.one.now.window.now c.args.one.now.own.now.marks.items c.args.one.now.own.now.known _ c.requires.mend
    c.in-Some.cell its.is its.rec_within (ap (λ (mark : SlotMark). is_repaired_by (seen c.args.plan.now) c.args.one.now.stripe mark c.args.one.now.own.now.known c.args.d) (sym c.mark_of-mark.ensures) ∙ sym c.is_repaired.ensures ∙ c.if-not-is_repaired.false)
    c.cell_bytes-bytes.result.now c.cell_bytes-bytes.ensures _ fails)
    c.write_cell.ensures.failed
