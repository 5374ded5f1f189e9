use Rattle.std.proofs.Common.{arith}
use Rattle.std.proofs.lemmas.Grind.{common_steps}
use Rattle.snap_report.proofs.PutsLemmas.{puts_then, puts_same}
use Rattle.snap_report.proofs.pages.Lines.put_file.Goals as goal

pub returns : goal.returns
returns g c = puts_same _ _ _ _ _ (puts_then _ _ _ _ _ _ (puts_then _ _ _ _ _ _ c.put.ensures c.put-2.ensures) c.put_printed.ensures) (grind (arith, common_steps))
