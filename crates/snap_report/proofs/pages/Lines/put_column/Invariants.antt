use Rattle.std.proofs.Common.{take}
use Rattle.file_table.specs.Table.{column_at}
use Rattle.snap_report.specs.ListText.{records_lines}
use Rattle.snap_report.specs.State.{Puts}
use Rattle.snap_report.proofs.pages.Lines.put_column.Given as goal

abbrev pub invariant-loop-rec : goal.invariant-loop-rec
invariant-loop-rec g l = Puts g.W.Sink.view (records_lines (column_at l.table.columns l.disk).name (take l.rec (column_at l.table.columns l.disk).records)) l.fn.self l.self
