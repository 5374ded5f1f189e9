use Rattle.snap_top.proofs.ResumeLemmas.{resumed_after}
use Rattle.snap_top.proofs.laws.stopped_syncs_are_resumed.Goals as goal

pub returns : goal.returns
returns c =
    let stopped = c.a_stopped_sync_is_resumed.ensures in
    resumed_after c.one_table_has_a_spelling.ensures c.a_sync_is_a_part_sync.ensures.laid c.what_a_sync_saves_is_valid.ensures c.every_moment_is_sound.ensures
    c.there_is_a_full_sync.ensures.there_is c.there_is_a_full_sync.ensures.shape stopped.full stopped.again stopped.verified
