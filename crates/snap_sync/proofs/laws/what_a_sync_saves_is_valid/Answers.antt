use Rattle.snap_sync.proofs.SoundLemmas.{saved_valid}
use Rattle.snap_sync.proofs.laws.what_a_sync_saves_is_valid.Goals as goal

pub returns : goal.returns
returns c = λ plan readings ahead olds news count all first valid in_time within.
    saved_valid c.a_cell_stands_at_its_position.ensures.found c.closing_a_stripe_leaves_the_others.ensures c.closing_a_stripe_gives_its_hashes.ensures
    plan readings ahead olds news all first c.a_cell_stands_at_its_position.ensures.only valid in_time count within
