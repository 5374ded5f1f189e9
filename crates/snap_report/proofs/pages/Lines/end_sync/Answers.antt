use Rattle.std.proofs.Common.{arith}
use Rattle.std.proofs.lemmas.Grind.{common_steps}
use Rattle.snap_report.proofs.PutsLemmas.{puts_same}
use Rattle.snap_report.proofs.pages.Lines.end_sync.Goals as goal

pub returns-clause-puts : goal.returns-clause-puts
returns-clause-puts g c = puts_same _ _ _ _ _ c.put_last.ensures.puts (grind (arith, common_steps, c.from.ensures, c.from-2.ensures))
