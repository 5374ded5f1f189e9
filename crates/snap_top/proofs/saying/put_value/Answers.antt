use Rattle.snap_report.proofs.PutsLemmas.{puts_then}
use Rattle.snap_top.proofs.saying.put_value.Goals as goal

pub returns : goal.returns
returns g c = puts_then _ _ _ _ _ _ c.put.ensures (puts_then _ _ _ _ _ _ c.put_bad.ensures c.put-2.ensures)
