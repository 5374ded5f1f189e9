use Rattle.disk_model.proofs.SteadyLemmas.{steady_opened}
use Rattle.disk_model.proofs.ByCallsLemmas.{opened_reads, opened_is_settled}
use Rattle.disk_model.proofs.laws.an_opened_vault_is_settled.Goals as goal

pub returns-clause-steady : goal.returns-clause-steady
returns-clause-steady c = steady_opened

pub returns-clause-reads : goal.returns-clause-reads
returns-clause-reads c = opened_reads

pub returns-clause-settled : goal.returns-clause-settled
returns-clause-settled c = opened_is_settled
