use Rattle.std.proofs.Common.{◌<◌, length, arith}
use Rattle.file_table.specs.Table.{column_at}
use Rattle.snap_report.specs.ListText.{record_line}
use Rattle.snap_report.proofs.PutsLemmas.{puts_one_more}
use Rattle.snap_report.proofs.pages.Lines.put_column.Goals as goal

pub loop-rec-preserved : goal.loop-rec-preserved
loop-rec-preserved g c =
    let column = column_at c.args.table.now.columns c.args.disk in
    let within : c.loop-rec.rec < length column.records = omega (arith, c.loop-rec-test.true, c.records-rec-end.ensures) in
    puts_one_more _ (record_line column.name) column.records c.loop-rec.rec _ _ _ _ within c.loop-rec.invariant c.put_record.ensures
