use Rattle.std.proofs.Common.{◌<◌, length, arith}
use Rattle.snap_report.specs.ListText.{column_lines}
use Rattle.snap_report.proofs.PutsLemmas.{puts_one_more}
use Rattle.snap_report.proofs.pages.Lines.put_columns.Goals as goal

pub loop-disk-preserved : goal.loop-disk-preserved
loop-disk-preserved g c =
    let within : c.loop-disk.disk < length c.args.table.now.columns = omega (arith, c.loop-disk-test.true, c.disks-disk-end.ensures.count) in
    puts_one_more _ column_lines c.args.table.now.columns c.loop-disk.disk _ _ _ _ within c.loop-disk.invariant c.put_column.ensures
