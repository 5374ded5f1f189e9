use Rattle.snap_exercise.proofs.ClosingLemmas.{closes_all}
use Rattle.snap_exercise.proofs.laws.the_sync_of_a_number_closes_all.Goals as goal

pub returns : goal.returns
returns c = λ n s is.
    let found = c.what_is_pending_is_found.ensures in
    closes_all c.a_sync_is_a_part_sync.ensures.laid c.a_sync_is_a_part_sync.ensures.given found.exactly found.told found.findings found.pending n s is
