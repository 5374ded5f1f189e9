use Rattle.std.proofs.Common.{sym, subst}
use Rattle.disk_memory.specs.Vault.{VaultValue, view_of}
use Rattle.snap_top_histories.specs.Lived.{IsNew}
use Rattle.snap_top_breaks.proofs.broken_scrub.failing_vault.Goals as goal

pub returns-clause-fresh : goal.returns-clause-fresh
returns-clause-fresh c = subst (λ (v : VaultValue). IsNew (view_of v)) (sym c.fail_at.ensures.same) c.requires
