use Rattle.std.proofs.Common.{map}
use Rattle.std.specs.List.{range_with_len}
use Rattle.snap_report.specs.EventLines.{joined}
use Rattle.snap_report.specs.StatusText.{bad_line}
use Rattle.snap_report.specs.State.{Puts}
use Rattle.snap_report.proofs.pages.Lines.put_bad.Given as goal

abbrev pub invariant-loop-stripe : goal.invariant-loop-stripe
invariant-loop-stripe g l = Puts g.W.Sink.view (joined (map (bad_line l.table) (range_with_len 0 l.stripe))) l.fn.self l.self
