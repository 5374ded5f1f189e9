use Rattle.std.proofs.Common.{sym, subst}
use Rattle.disk_model.specs.Vault.{IsSettled}
use Rattle.disk_memory.specs.Vault.{VaultValue, view_of}
use Rattle.snap_top_fault_tests.proofs.tests.readers.gated.Goals as goal

pub returns-clause-settled : goal.returns-clause-settled
returns-clause-settled c =
    subst (λ (value : VaultValue). IsSettled (view_of value)) (sym c.new.ensures.base) c.requires.settled
