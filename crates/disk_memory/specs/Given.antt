-- What an opener in memory may hold.
use Rattle.std.specs.Prelude.{◌≡◌, ℕ, List, length, vec_len, replicate, false, All, Option, None, Some}
use Rattle.disk_model.specs.declared.opener.Opened.{Opened}
use Rattle.disk_model.specs.declared.opener.Places.{Places}
use Rattle.disk_model.specs.Folder.{FolderView}
use Rattle.disk_model.specs.Vault.{VaultView, copies_of, IsSettled}
use Rattle.disk_model.specs.declared.draft.Draft.TheVariants.{Absent}

-- there are so many places of each kind
pub record AreSoMany (places : Places) (folders levels copies : ℕ) : Type 0 where
  pub folders_are : folders ≡ vec_len places.dirs
  pub levels_are : levels ≡ vec_len places.parities
  pub copies_are : copies ≡ vec_len places.contents

-- these are held, with as many folders, levels and copies as there are places
abbrev pub Fits : {F V : Type 0} → (V → VaultView) → Places → Option (Opened F V) → Type 0
Fits view places None = ⊥
Fits view places (Some o) = AreSoMany places (vec_len o.folders) (view o.vault).levels (copies_of (view o.vault))

-- no copy has a draft
abbrev pub HasNoDraft : VaultView → Type 0
HasNoDraft v = v.drafts ≡ replicate (length v.drafts) Absent

-- no folder is closed, and the vault has no draft and nothing unsynced
pub record CanGive {F : Type 0} (view : F → FolderView) (folders : List F) (vault : VaultView) : Type 0 where
  pub are_open : All (λ f. (view f).closed ≡ false) folders
  pub drafts : HasNoDraft vault
  pub settled : IsSettled vault
