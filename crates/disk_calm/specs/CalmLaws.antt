-- A calm vault is well formed.
use Rattle.std.proofs.Common.{sym, ◌∙◌, IsTrue, false}
use Rattle.disk_model.specs.Vault.{IsWellFormed}
use Rattle.disk_calm.specs.Calm.{calm_vault_view}
use Rattle.disk_calm.specs.StoreLaws.{store_files, drafts_long, staged_long}
use Rattle.disk_calm.specs.declared.vault.CalmVault.{CalmVault}

pub calm_vault_well_formed : (v : CalmVault) → IsWellFormed (calm_vault_view v)
calm_vault_well_formed v = record {
  tells = λ told. absurd (untold told);
  shape = λ told. record {
    files = store_files v.store;
    staged = staged_long v.store ∙ sym (drafts_long v.store);
    staged_bytes = v.store.bytes.staged;
  };
  leaves_shape = λ told. absurd (untold told);
  leaves_files = λ told. tt;
  earlier = λ told t u files le left. tt;
}
  where
    untold : IsTrue false → ⊥
    untold told = cc
