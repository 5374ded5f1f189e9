use Rattle.snap_scrub.proofs.UnreadLemmas.{unread_told}
use Rattle.snap_scrub.proofs.laws.each_unread_level_is_told.Goals as goal

pub returns : goal.returns
returns c = λ table readings. unread_told table readings
