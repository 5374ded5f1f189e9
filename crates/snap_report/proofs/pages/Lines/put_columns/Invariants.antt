use Rattle.std.proofs.Common.{take}
use Rattle.snap_report.specs.ListText.{list_lines}
use Rattle.snap_report.specs.State.{Puts}
use Rattle.snap_report.proofs.pages.Lines.put_columns.Given as goal

abbrev pub invariant-loop-disk : goal.invariant-loop-disk
invariant-loop-disk g l = Puts g.W.Sink.view (list_lines (take l.disk l.table.columns)) l.fn.self l.self
