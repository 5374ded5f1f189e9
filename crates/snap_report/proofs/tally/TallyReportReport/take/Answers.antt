use Rattle.std.proofs.Common.{◌≡◌, false, true, refl, arith}
use Rattle.snap_report.proofs.TallyLemmas.{counts_more}
use Rattle.snap_report.proofs.tally.TallyReportReport.take.Goals as goal

pub returns : goal.returns
returns c = record {
  later = omega arith;
  steady = refl;
  never = λ _. refl;
  ok = refl;
  err = tt;
  unfailed = refl;
  cause = tt;
  tells = refl;
  whole = λ told. absurd (let e : false ≡ true = told in cc);
  part = λ told. absurd (let e : false ≡ true = told in cc);
  told = λ events kept. rw c.kind-kind.ensures.value (counts_more c.args.self.now.counts events c.args.event.now c.saturating_add.result (grind arith) (rw (← c.kind-kind.ensures.value) c.saturating_add.ensures) kept);
}
