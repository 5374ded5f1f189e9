use Rattle.snap_report.specs.Text.{printed_byte}
use Rattle.snap_report.proofs.PutsLemmas.{puts_one_more}
use Rattle.snap_report.proofs.pages.Lines.put_printed.Goals as goal

pub loop-byte-preserved : goal.loop-byte-preserved
loop-byte-preserved g c = puts_one_more _ printed_byte c.args.bytes.now c.loop-byte.byte-index _ _ _ _ c.loop-byte-test.true c.loop-byte.invariant c.put_byte.ensures
