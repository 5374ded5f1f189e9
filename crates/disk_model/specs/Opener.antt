-- What is known of an opener, and what its calls do.
use Rattle.std.specs.Prelude.{◌≡◌, ◌↔◌, ℕ, ◌≤◌, List, [], ◌∷◌, replicate, get_or, Bool, true, false, IsTrue, Result, Ok, Err}
use Rattle.disk_model.specs.Cause.{Rose, Grows}
use Rattle.disk_model.specs.Files.{Files}
use Rattle.disk_model.specs.Folder.{FolderView, quiet_folder}
use Rattle.disk_model.specs.Vault.{VaultView, IsSettled}
use Rattle.disk_model.specs.declared.draft.Draft.TheVariants.{Absent}
use Rattle.disk_model.specs.declared.fault.OpenFault.{OpenFault}
use Rattle.disk_model.specs.declared.fault.OpenFault.TheVariants.{Failed, Memory}

-- a call with its arguments
pub data OpenerCall : Type 0 where
  Config : (name : List ℕ) → OpenerCall
  Open : (dirs parities contents : List (List ℕ)) → OpenerCall
  Import : (dir : List ℕ) → OpenerCall

-- a call that was made, and whether it answered `Failed`
pub record OpenerDone : Type 0 where
  pub call : OpenerCall
  pub failed : Bool

-- An opener. Its count of faults is always told, and the counts that its folders, its vault and the folder to import will begin with; where
-- `tells` is true, config is what a configuration holds, folders and vault are what it will open, and import is the folder that it
-- will import; where `tells_calls` is, calls are all calls so far.
pub record OpenerView : Type 1 where
  pub faults : ℕ
  pub tells : Bool
  pub config : List ℕ
  pub folders : List FolderView
  pub vault : VaultView
  pub import : FolderView
  pub tells_calls : Bool
  pub calls : List OpenerDone

-- the answer is `Failed`
abbrev pub has_failed : {T : Type 0} → Result T OpenFault → Bool
has_failed (Ok _) = false
has_failed (Err Failed) = true
has_failed (Err Memory) = false

-- what stays of an opener over any number of calls
pub record OpenerGoesOn (old new : OpenerView) (done : List OpenerDone) : Type 0 where
  pub later : old.faults ≤ new.faults
  pub tells : new.tells ≡ old.tells
  pub calls : Grows old.tells_calls old.calls new.tells_calls new.calls done

-- one call: it fails only where the count rose
pub record IsOpenerCall {T : Type 0} (call : OpenerCall) (result : Result T OpenFault) (old new : OpenerView) : Type 0 where
  pub goes_on : OpenerGoesOn old new (record { call = call; failed = has_failed result } ∷ [])
  pub cause : IsTrue (has_failed result) → Rose old.faults new.faults

-- the folder of a column that it holds, of one that tells none a new one
abbrev pub folder_held : OpenerView → ℕ → FolderView
folder_held v column = get_or v.folders column (quiet_folder 0 false)

-- a folder is given as it was held
pub record FolderIsGiven (is_told : Bool) (held given : FolderView) : Type 0 where
  pub faults : given.faults ≡ held.faults
  pub writes : given.writes ≡ held.writes
  pub is_open : given.closed ≡ false
  pub whole : IsTrue is_told → given ≡ held

-- another vault with the same counts that holds the same, where that is told
pub record SameVault (is_told : Bool) (held other : VaultView) : Type 0 where
  pub faults : other.faults ≡ held.faults
  pub writes : other.writes ≡ held.writes
  pub levels : IsTrue is_told → other.levels ≡ held.levels
  pub drafts : IsTrue is_told → other.drafts ≡ held.drafts
  pub tells : IsTrue is_told → other.tells ≡ held.tells
  pub files : IsTrue is_told → other.files ≡ held.files
  pub staged : IsTrue is_told → other.staged ≡ held.staged
  pub tells_calls : IsTrue is_told → other.tells_calls ≡ held.tells_calls
  pub calls : IsTrue is_told → other.calls ≡ held.calls
  pub tells_images : IsTrue is_told → other.images.told ≡ held.images.told
  pub moment : IsTrue is_told → other.images.moment ≡ held.images.moment
  pub since : IsTrue is_told → (t : ℕ) (files : Files) → other.images.since t files ↔ held.images.since t files

-- the vault is given as it was held, with nothing unsynced and no draft
pub record VaultIsGiven (is_told : Bool) (parities contents : ℕ) (held given : VaultView) : Type 0 where
  pub same : SameVault is_told held given
  pub levels : given.levels ≡ parities
  pub drafts : given.drafts ≡ replicate contents Absent
  pub settled : IsSettled given

-- it holds the same configuration, folders and vault to give
pub record HoldsArray (old new : OpenerView) : Type 0 where
  pub config : IsTrue old.tells → new.config ≡ old.config
  pub folders : IsTrue old.tells → new.folders ≡ old.folders
  pub folder_counts : (column : ℕ) → (folder_held new column).faults ≡ (folder_held old column).faults
  pub folder_writes : (column : ℕ) → (folder_held new column).writes ≡ (folder_held old column).writes
  pub vault : SameVault old.tells old.vault new.vault

-- it holds the same folder to import
pub record HoldsImport (old new : OpenerView) : Type 0 where
  pub folder : IsTrue old.tells → new.import ≡ old.import
  pub count : new.import.faults ≡ old.import.faults
  pub writes : new.import.writes ≡ old.import.writes

-- it holds the same to give
pub record HoldsSame (old new : OpenerView) : Type 0 where
  pub array : HoldsArray old new
  pub import : HoldsImport old new
