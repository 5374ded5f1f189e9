use Rattle.std.proofs.Common.{arith}
use Rattle.std.proofs.lemmas.Grind.{common_steps}
use Rattle.snap_report.proofs.PutsLemmas.{puts_then, puts_same}
use Rattle.snap_report.proofs.pages.Lines.put_meta.Goals as goal

pub returns : goal.returns
returns g c =
    let size = puts_then _ _ _ _ _ _ c.put_number.ensures c.put.ensures in
    let seconds = puts_then _ _ _ _ _ _ (puts_then _ _ _ _ _ _ size c.put_number-2.ensures) c.put-2.ensures in
    puts_same _ _ _ _ _ (puts_then _ _ _ _ _ _ seconds c.put_nine_digits.ensures) (grind (arith, common_steps))
