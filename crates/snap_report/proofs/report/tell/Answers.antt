use Rattle.std.proofs.Common.{sym}
use Rattle.std.proofs.lemmas.List.{append-nil}
use Rattle.snap_report.proofs.PutsLemmas.{puts_same}
use Rattle.snap_report.proofs.ReportLemmas.{all_given_same}
use Rattle.snap_report.proofs.report.tell.Goals as goal

pub returns : goal.returns
returns g c = record {
  puts = puts_same _ _ _ _ _ c.tell.ensures.puts (sym (append-nil _));
  settled = λ _. c.tell.ensures.settled;
  given = all_given_same _ _ _ _ _ _ _ c.give_all.ensures (sym (append-nil _));
}
