-- Objects in memory that fail for want of memory alone.
use Rattle.std.specs.Prelude.{◌≡◌, ℕ, [], Bool, true, false, IsTrue}
use Rattle.std.specs.FinMap as finite
use Rattle.disk_model.specs.Cause.{exactly}
use Rattle.disk_model.specs.Folder.{FolderView, IsFolder}
use Rattle.disk_model.specs.Vault.{VaultView, no_images}
use Rattle.disk_calm.specs.Kept.{tree_in, is_tree_in}
use Rattle.disk_calm.specs.Held.{Held}
use Rattle.disk_calm.specs.Store.{held, nothing_held}
use Rattle.disk_calm.specs.declared.folder.CalmFolder.{CalmFolder}
use Rattle.disk_calm.specs.declared.vault.CalmVault.{CalmVault}

-- the call did not fail, and the count stays
pub record IsCalm (failed : Bool) (old new : ℕ) : Type 0 where
  pub unfailed : failed ≡ false
  pub counts : new ≡ old

-- the call failed only where P, and the count stays where it did not
pub record IsCalmUnless (P : Type 0) (failed : Bool) (old new : ℕ) : Type 0 where
  pub only : failed ≡ true → P
  pub counts : failed ≡ false → new ≡ old

-- an open folder that tells its tree and no calls
abbrev pub calm_folder_view : CalmFolder → FolderView
calm_folder_view f = record {
  faults = f.faults;
  writes = exactly f.writes;
  keeps = λ stamp. f.keeps_stamps;
  closed = false;
  tells = true;
  tree = tree_in f.files;
  tells_calls = false;
  calls = [];
}

-- an empty tree
abbrev pub fresh_calm_folder : Bool → FolderView
fresh_calm_folder keeps_stamps = record {
  faults = 0;
  writes = exactly 0;
  keeps = λ stamp. keeps_stamps;
  closed = false;
  tells = true;
  tree = finite.empty;
  tells_calls = false;
  calls = [];
}

pub calm_folder_well_formed : (f : CalmFolder) → IsFolder (calm_folder_view f)
calm_folder_well_formed f = record { tree = λ told. is_tree_in f.files; told = λ closed. absurd (untrue closed); closed = λ closed. absurd (untrue closed) }
  where
    untrue : IsTrue false → ⊥
    untrue told = cc

-- what a calm vault tells: its counts, what reads give and its drafts
pub record CalmValue : Type 0 where
  pub faults : ℕ
  pub writes : ℕ
  pub levels : ℕ
  pub held_now : Held

abbrev pub calm_value : CalmVault → CalmValue
calm_value v = record { faults = v.faults; writes = v.writes; levels = v.store.levels; held_now = held v.store }

-- it tells no calls, and not what a stop may leave
abbrev pub calm_view_of : CalmValue → VaultView
calm_view_of v = record {
  faults = v.faults;
  writes = exactly v.writes;
  levels = v.levels;
  drafts = v.held_now.drafts;
  tells = true;
  files = v.held_now.files;
  staged = v.held_now.staged;
  tells_calls = false;
  calls = [];
  images = no_images;
}

abbrev pub calm_vault_view : CalmVault → VaultView
calm_vault_view v = calm_view_of (calm_value v)

abbrev pub fresh_calm_vault : ℕ → ℕ → CalmValue
fresh_calm_vault levels copies = record { faults = 0; writes = 0; levels = levels; held_now = nothing_held levels copies }
