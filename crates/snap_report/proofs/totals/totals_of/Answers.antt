use Rattle.std.proofs.Common.{arith}
use Rattle.snap_report.proofs.TotalsLemmas.{records_within}
use Rattle.snap_report.proofs.totals.totals_of.Goals as goal

pub overflow_add-totals : goal.overflow_add-totals
overflow_add-totals c =
    let within = records_within c.args.table.now.columns c.loop-d.d (omega (arith, c.disks-d-end.ensures.count, c.loop-d-test.true)) in
    let few = c.disks-d-end.ensures.valid.columns.few_records in
    omega (arith, within, few, c.loop-d.invariant.files, c.records.ensures, c.from.ensures)

pub overflow_add-totals-in-loop-d : goal.overflow_add-totals-in-loop-d
overflow_add-totals-in-loop-d c =
    let within = records_within c.args.table.now.columns c.loop-d.d (omega (arith, c.disks-d-end.ensures.count, c.loop-d-test.true)) in
    let few = c.disks-d-end.ensures.valid.columns.few_records in
    omega (arith, within, few, c.loop-d.invariant.files, c.loop-d.invariant.bound, c.column_bytes.ensures.bound)
