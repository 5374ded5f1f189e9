use Rattle.std.proofs.Common.{take}
use Rattle.snap_report.specs.Text.{printed}
use Rattle.snap_report.specs.State.{Puts}
use Rattle.snap_report.proofs.pages.Lines.put_printed.Given as goal

abbrev pub invariant-loop-byte : goal.invariant-loop-byte
invariant-loop-byte g l = Puts g.W.Sink.view (printed (take l.byte-index l.bytes)) l.fn.self l.self
