use Rattle.snap_report.proofs.PutsLemmas.{puts_then}
use Rattle.snap_report.proofs.pages.Lines.put_found.Goals as goal

pub returns-in-Some : goal.returns-in-Some
returns-in-Some g c = rw c.in-Some.is (puts_then _ _ _ _ _ _ c.put.ensures c.put_meta.ensures)

pub returns-in-None : goal.returns-in-None
returns-in-None g c = rw c.in-None.is c.put-in-None.ensures
