-- That nothing failed in a run, or nothing so that a run ends.
use Rattle.std.specs.Prelude.{◌≡◌, ◌⊎◌, ℕ, ◌<◌, List, IsTrue, Some}
use Rattle.content_file.specs.Load.{HasFailed}
use Rattle.content_file.specs.Spelling.{IsContent}
use Rattle.disk_model.specs.Cause.{Rose}
use Rattle.disk_model.specs.Files.{content_of}
use Rattle.disk_model.specs.Folder.{FolderView}
use Rattle.disk_model.specs.Opener.{folder_held}
use Rattle.disk_model.specs.Vault.{VaultView, copies_of, state_of}
use Rattle.snap_report.specs.Answer.{Gained, broke_folder, broke_vault}
use Rattle.snap_sync.specs.Work.{broke_sync}
use Rattle.snap_top.specs.Entry.{Entry, Exit}
use Rattle.snap_top.specs.Views.{view_of, folder_at}
use Rattle.snap_sync.specs.Part.{NoneRose}

-- A folder failed so that a run ends: its count rose and, where it tells its calls, one failed that neither looks nor reads.
pub record BreaksFolder (old new : FolderView) : Type 0 where
  pub rose : Rose old.faults new.faults
  pub call : IsTrue new.tells_calls → Gained broke_folder old.calls new.calls

-- each copy that is a content file had a reading that failed
abbrev pub NoCopyWasRead : VaultView → VaultView → Type 0
NoCopyWasRead old new = (copy : ℕ) (bytes : List ℕ) → copy < copies_of old → content_of old.files copy ≡ Some bytes → IsContent bytes → HasFailed old new copy

-- The vault failed so that a run ends: its count rose and, where it tells its calls, one failed that reads no parity. That one reads no copy
-- either, or each copy that is a content file had one that failed.
pub record BreaksVault (old new : VaultView) : Type 0 where
  pub rose : Rose old.faults new.faults
  pub call : IsTrue new.tells_calls → Gained broke_vault old.calls new.calls
  pub copies : (IsTrue new.tells_calls → Gained broke_sync old.calls new.calls) ⊎ (IsTrue old.tells → NoCopyWasRead old new)

-- the vault that the opener held, and what it is at the end
abbrev pub held_vault : Entry → VaultView
held_vault before = view_of (state_of before.opener.vault)

abbrev pub left_vault : Exit → VaultView
left_vault exit = view_of (state_of exit.after.vault)

-- Neither the opener nor a folder nor the vault failed so that a run ends.
pub record NothingBroke (before : Entry) (exit : Exit) : Type 0 where
  pub opener : ¬ (Rose before.opener.faults exit.opener.faults)
  pub folders : (d : ℕ) → ¬ (BreaksFolder (folder_held before.opener d) (folder_at exit.after.folders d))
  pub vault : ¬ (BreaksVault (held_vault before) (left_vault exit))

-- the count of faults of no folder rose, and not that of the vault
pub record NothingRose (before : Entry) (exit : Exit) : Type 0 where
  pub folders : NoneRose before.opener.folders exit.after.folders
  pub vault : ¬ (Rose before.opener.vault.faults exit.after.vault.faults)
