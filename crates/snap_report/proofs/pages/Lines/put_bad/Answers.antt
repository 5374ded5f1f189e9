use Rattle.std.proofs.Common.{sym}
use Rattle.snap_report.specs.StatusText.{bad_line}
use Rattle.snap_report.proofs.StripesLemmas.{joined_more}
use Rattle.snap_report.proofs.PutsLemmas.{puts_then, puts_same}
use Rattle.snap_report.proofs.pages.Lines.put_bad.Goals as goal

pub loop-stripe-preserved : goal.loop-stripe-preserved
loop-stripe-preserved g c =
    puts_same _ _ _ _ _ (puts_then _ _ _ _ _ _ c.loop-stripe.invariant c.put_if_bad.ensures) (sym (joined_more (bad_line c.args.table.now) c.loop-stripe.stripe))
