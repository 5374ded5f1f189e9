use Rattle.std.proofs.lemmas.List.{append-nil}
use Rattle.snap_report.proofs.PutsLemmas.{puts_then, puts_same}
use Rattle.snap_report.proofs.list.list_text.Goals as goal

pub returns-clause-puts : goal.returns-clause-puts
returns-clause-puts g c =
    puts_same _ _ _ _ _ (puts_then _ _ _ _ _ _ (puts_then _ _ _ _ _ _ c.put_columns.ensures c.put_totals.ensures) c.hand_on.ensures.puts)
    (rw (c.totals_of-totals.ensures.files, c.totals_of-totals.ensures.bytes) (append-nil _))
