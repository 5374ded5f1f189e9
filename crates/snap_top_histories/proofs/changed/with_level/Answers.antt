use Rattle.snap_top_histories.proofs.ChangedLemmas.{damaged_new}
use Rattle.snap_top_histories.proofs.changed.with_level.Goals as goal

pub returns : goal.returns
returns c = damaged_new _ _ _ _ c.in_ok-set_parity.ensures.set c.requires c.in_ok-set_parity.ensures.settled_now c.in_ok-set_parity.ensures.drafts
