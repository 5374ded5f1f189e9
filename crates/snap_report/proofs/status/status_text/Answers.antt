use Rattle.snap_report.proofs.PutsLemmas.{puts_then}
use Rattle.snap_report.proofs.status.status_text.Goals as goal

pub returns-clause-puts : goal.returns-clause-puts
returns-clause-puts g c =
    puts_then _ _ _ _ _ _ c.put_counts.ensures (puts_then _ _ _ _ _ _ c.put_oldest.ensures
    (puts_then _ _ _ _ _ _ c.put_disks.ensures (puts_then _ _ _ _ _ _ c.put_bad.ensures c.hand_on.ensures.puts)))
