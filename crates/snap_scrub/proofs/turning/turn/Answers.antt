use Rattle.std.proofs.Common.{rules}
use Rattle.snap_scrub.proofs.LookingLemmas.{looks_between}
use Rattle.snap_scrub.proofs.turning.turn.Goals as goal

pub returns-clause-looks : goal.returns-clause-looks
returns-clause-looks g c =
    let it = c.join_mut-findings.ensures.1.met.1.2 in
    let looks = it.looks in
    let verdicts_are = it.verdicts_are in
    record {
      readings = it.readings;
      cells_are = it.cells_are;
      looks = looks_between _ _ _ _ it.readings _ _ _ _ _ _ _ _ c.take_ahead-levels.ensures c.put_ahead.ensures (search (looks, rules));
      verdicts_are = search (verdicts_are, rules);
      findings_are = it.findings_are;
    }
