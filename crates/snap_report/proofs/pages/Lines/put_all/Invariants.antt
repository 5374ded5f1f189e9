use Rattle.std.proofs.Common.{take}
use Rattle.snap_report.specs.Pieces.{pieces_text}
use Rattle.snap_report.specs.State.{Puts}
use Rattle.snap_report.proofs.pages.Lines.put_all.Given as goal

abbrev pub invariant-loop-piece : goal.invariant-loop-piece
invariant-loop-piece g l = Puts g.W.Sink.view (pieces_text (take l.piece-index l.pieces)) l.fn.self l.self
