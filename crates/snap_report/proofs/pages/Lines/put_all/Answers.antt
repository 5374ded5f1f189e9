use Rattle.snap_report.specs.Pieces.{piece_text}
use Rattle.snap_report.proofs.PutsLemmas.{puts_one_more}
use Rattle.snap_report.proofs.pages.Lines.put_all.Goals as goal

pub loop-piece-preserved : goal.loop-piece-preserved
loop-piece-preserved g c = puts_one_more _ piece_text c.args.pieces.now c.loop-piece.piece-index _ _ _ _ c.loop-piece-test.true c.loop-piece.invariant c.put_piece.ensures
