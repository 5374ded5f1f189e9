-- Openers in memory.
use Rattle.std.specs.Prelude.{◌≡◌, ℕ, List, [], true, false, Bool, not}
use Rattle.std.specs.Prelude.{Option, None, Some}
use Rattle.disk_model.specs.Folder.{FolderView, quiet_folder}
use Rattle.disk_model.specs.Vault.{VaultView, quiet_vault}
use Rattle.disk_model.specs.Opener.{OpenerView, OpenerDone, SameVault}

-- the folders that are left to give
abbrev pub folders_left : {A : Type 0} → (A → List FolderView) → Option A → List FolderView
folders_left view None = []
folders_left view (Some held) = view held

-- the vault that is left to give
abbrev pub vault_left : {A : Type 0} → (A → VaultView) → Option A → VaultView
vault_left view None = quiet_vault 0 0 0 []
vault_left view (Some held) = view held

-- the folder that is left to import, a quiet one where there is none
abbrev pub import_left : {A : Type 0} → (A → FolderView) → Option A → FolderView
import_left view None = quiet_folder 0 false
import_left view (Some folder) = view folder

-- an opener that tells what it gives, and its calls until memory refuses an entry
abbrev pub opener_view : ℕ → List ℕ → List FolderView → VaultView → FolderView → Bool → List OpenerDone → OpenerView
opener_view faults config folders vault import lost calls = record {
  faults = faults;
  tells = true;
  config = config;
  folders = folders;
  vault = vault;
  import = import;
  tells_calls = not lost;
  calls = calls;
}

-- an opener that tells that it holds these and no folder to import, with no call yet
pub record IsFreshOpener (config : List ℕ) (folders : List FolderView) (vault : VaultView) (v : OpenerView) : Type 0 where
  pub faults : v.faults ≡ 0
  pub tells : v.tells ≡ true
  pub config_is : v.config ≡ config
  pub folders_are : v.folders ≡ folders
  pub vault_is : SameVault true vault v.vault
  pub import_is : v.import ≡ quiet_folder 0 false
  pub tells_calls : v.tells_calls ≡ true
  pub calls : v.calls ≡ []

-- an opener that tells that it holds these and no folder to import, and no calls
pub record IsCalmFresh (config : List ℕ) (folders : List FolderView) (vault : VaultView) (v : OpenerView) : Type 0 where
  pub faults : v.faults ≡ 0
  pub tells : v.tells ≡ true
  pub config_is : v.config ≡ config
  pub folders_are : v.folders ≡ folders
  pub vault_is : SameVault true vault v.vault
  pub import_is : v.import ≡ quiet_folder 0 false

-- all that is known of an opener is as it was
pub record SameOpener (old new : OpenerView) : Type 0 where
  pub faults : new.faults ≡ old.faults
  pub tells : new.tells ≡ old.tells
  pub config : new.config ≡ old.config
  pub folders : new.folders ≡ old.folders
  pub vault : SameVault true old.vault new.vault
  pub import : new.import ≡ old.import
  pub tells_calls : new.tells_calls ≡ old.tells_calls
  pub calls : new.calls ≡ old.calls
