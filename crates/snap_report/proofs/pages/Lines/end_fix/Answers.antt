use Rattle.snap_report.proofs.PutsLemmas.{puts_same}
use Rattle.snap_report.proofs.pages.Lines.end_fix.Goals as goal

pub returns-clause-puts : goal.returns-clause-puts
returns-clause-puts g c = puts_same _ _ _ _ _ c.put_last.ensures.puts (rw (c.from.ensures, c.from-2.ensures, c.from-3.ensures))
