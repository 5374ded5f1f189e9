use Rattle.snap_top.proofs.AskedLemmas.{loads_well, once_well}
use Rattle.snap_top.proofs.laws.what_a_run_loaded_is_known.Goals as goal

pub returns-clause-none : goal.returns-clause-none
returns-clause-none g c run always none = loads_well _ _ always.did always.is_did none

pub returns-clause-once : goal.returns-clause-once
returns-clause-once g c run always sync did_is once = once_well _ _ always.did always.is_did always.broke sync did_is once
