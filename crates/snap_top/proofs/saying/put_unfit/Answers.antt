use Rattle.snap_report.proofs.PutsLemmas.{puts_then}
use Rattle.snap_top.proofs.saying.put_unfit.Goals as goal

pub returns : goal.returns
returns g c = puts_then _ _ _ _ _ _ c.put.ensures (puts_then _ _ _ _ _ _ c.put_given.ensures c.put_all.ensures)
