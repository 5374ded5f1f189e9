use Rattle.snap_report.proofs.PutsLemmas.{puts_same}
use Rattle.snap_report.proofs.pages.Lines.put_changed.Goals as goal

pub returns : goal.returns
returns g c = puts_same _ _ _ _ _ c.put_all.ensures (rw (c.file.ensures, c.meta.ensures))
