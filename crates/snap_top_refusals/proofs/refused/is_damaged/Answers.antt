use Rattle.std.proofs.Common.{refl, subst}
use Rattle.content_file.specs.Load.{LoadsNot}
use Rattle.content_file.specs.declared.loading.LoadFault.{LoadFault}
use Rattle.disk_memory.specs.Vault.{vault_view}
use Rattle.snap_top_refusals.proofs.RefusedLemmas.{found_damaged}
use Rattle.snap_top_refusals.proofs.refused.is_damaged.Goals as goal

pub returns-in-Err-Damaged : goal.returns-in-Err-Damaged
returns-in-Err-Damaged c _ =
    found_damaged (vault_view c.args.vault) (vault_view c.load.new.vault) _ refl
    (subst (λ (fault : LoadFault). LoadsNot (vault_view c.args.vault) (vault_view c.load.new.vault) fault) c.in-Err-Damaged.field-0-is c.in-Err-Damaged.ensures.cause)
