-- A vault of which one level was changed from outside.
use Rattle.std.specs.Prelude.{◌≡◌, ◌≢◌, ℕ}
use Rattle.disk_model.specs.Files.{parity_of}
use Rattle.disk_model.specs.Vault.{VaultView, copies_of}
use Rattle.snap_top_histories.specs.Lived.{IsNew}

-- The copies stay, and so do all other levels. It was just opened.
pub record IsChangedLevel (level : ℕ) (old new : VaultView) : Type 0 where
  pub is_new : IsNew new
  pub copies : copies_of new ≡ copies_of old
  pub contents : new.files.contents ≡ old.files.contents
  pub others : (other : ℕ) → other ≢ level → parity_of new.files other ≡ parity_of old.files other
