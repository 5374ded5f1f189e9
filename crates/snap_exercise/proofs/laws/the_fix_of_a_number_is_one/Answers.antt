use Rattle.snap_exercise.proofs.FixLemmas.{one_fix}
use Rattle.snap_exercise.proofs.laws.the_fix_of_a_number_is_one.Goals as goal

pub returns : goal.returns
returns c = λ n one other first second.
    one_fix c.a_sync_is_a_part_sync.ensures.laid c.a_sync_is_a_part_sync.ensures.given c.what_a_sync_saves_is_valid.ensures c.what_is_read_determines_what_is_found.ensures.stripe n one other first second
