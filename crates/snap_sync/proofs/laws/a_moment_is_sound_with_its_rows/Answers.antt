use Rattle.snap_sync.proofs.SoundLemmas.{moment_by}
use Rattle.snap_sync.proofs.laws.a_moment_is_sound_with_its_rows.Goals as goal

pub returns : goal.returns
returns c = λ plan loaded readings ahead olds news old new snapshot is_changed count all first stands are by.
    moment_by c.a_cell_stands_at_its_position.ensures.found c.closing_a_stripe_leaves_the_others.ensures c.closing_a_stripe_gives_its_hashes.ensures
    plan readings ahead olds news all first c.one_table_has_a_spelling.ensures loaded old new snapshot is_changed
    c.a_cell_stands_at_its_position.ensures.only stands are count by
