use Rattle.std.proofs.lemmas.List.{append-nil}
use Rattle.snap_report.proofs.PutsLemmas.{puts_then, puts_same}
use Rattle.snap_top.proofs.saying.tell_end.Goals as goal

pub returns-clause-puts : goal.returns-clause-puts
returns-clause-puts g c = puts_same _ _ _ _ _ (puts_then _ _ _ _ _ _ c.put_end.ensures c.hand_on.ensures.puts) (append-nil _)
