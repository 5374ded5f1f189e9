use Rattle.snap_exercise.proofs.WholeLemmas.{one_summary}
use Rattle.snap_exercise.proofs.laws.a_mended_exercise_has_one_summary.Goals as goal

pub returns : goal.returns
returns c = λ n one other first second none unwritten.
    one_summary c.a_sync_is_a_part_sync.ensures.laid c.a_sync_is_a_part_sync.ensures.given c.what_a_sync_saves_is_valid.ensures c.what_is_read_determines_what_is_found.ensures.stripe n one other first second none unwritten
