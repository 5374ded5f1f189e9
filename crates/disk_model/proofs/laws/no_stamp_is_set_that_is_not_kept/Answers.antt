use Rattle.disk_model.proofs.AnsweredLemmas.{no_stamp_set}
use Rattle.disk_model.proofs.laws.no_stamp_is_set_that_is_not_kept.Goals as goal

pub returns : goal.returns
returns c = no_stamp_set
