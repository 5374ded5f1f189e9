use Rattle.snap_exercise.proofs.LawLemmas.{one_sync, sync_of}
use Rattle.snap_exercise.proofs.laws.the_sync_of_a_number_is_one.Goals as goal

pub returns-clause-sync : goal.returns-clause-sync
returns-clause-sync c = λ n s is. sync_of c.a_sync_is_a_part_sync.ensures.laid c.a_sync_is_a_part_sync.ensures.given n s is

pub returns-clause-one : goal.returns-clause-one
returns-clause-one c = λ n one other first second.
    let laid = c.a_sync_is_a_part_sync.ensures.laid in
    let read = c.a_sync_is_a_part_sync.ensures.given in
    one_sync n one other (sync_of laid read n one first) (sync_of laid read n other second)
