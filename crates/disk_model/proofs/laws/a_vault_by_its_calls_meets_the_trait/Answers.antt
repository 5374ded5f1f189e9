use Rattle.disk_model.proofs.ByCallsLemmas.{well_formed_by_calls, changes_by_call, holds_synced, holds_published}
use Rattle.disk_model.proofs.CountLemmas.{counts_call}
use Rattle.disk_model.proofs.laws.a_vault_by_its_calls_meets_the_trait.Goals as goal

pub returns-clause-formed : goal.returns-clause-formed
returns-clause-formed c = well_formed_by_calls

pub returns-clause-changes : goal.returns-clause-changes
returns-clause-changes c = λ opened calls done told now_told faults now_faults steady gives within still. changes_by_call opened calls done steady gives told now_told faults now_faults within still

pub returns-clause-counts : goal.returns-clause-counts
returns-clause-counts c = λ opened calls done told now_told faults now_faults. counts_call calls done

pub returns-clause-synced : goal.returns-clause-synced
returns-clause-synced c = holds_synced

pub returns-clause-published : goal.returns-clause-published
returns-clause-published c = holds_published
