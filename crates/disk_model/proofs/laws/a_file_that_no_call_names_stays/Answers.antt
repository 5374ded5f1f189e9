use Rattle.disk_model.proofs.StoppedLemmas.{unnamed_stays}
use Rattle.disk_model.proofs.laws.a_file_that_no_call_names_stays.Goals as goal

pub returns : goal.returns
returns c = unnamed_stays
