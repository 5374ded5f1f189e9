use Rattle.disk_model.proofs.StoppedLemmas.{place_kept, lost_kept}
use Rattle.disk_model.proofs.TreeLemmas.{names_apart}
use Rattle.disk_model.proofs.laws.bytes_that_no_call_touches_stay.Goals as goal

pub returns-clause-place : goal.returns-clause-place
returns-clause-place c = place_kept

pub returns-clause-lost : goal.returns-clause-lost
returns-clause-lost c = lost_kept

pub returns-clause-apart : goal.returns-clause-apart
returns-clause-apart c = names_apart
