-- What a run leaves unwritten, by its words and by its status, also of a vault and of folders that tell neither files nor calls.
use Rattle.std.specs.Prelude.{◌≡◌, ◌⊎◌, ℕ, ◌<◌, length, Bool, true, false, Ok}
use Rattle.disk_model.specs.Opener.{folder_held}
use Rattle.snap_config.specs.declared.options.Command.{Command}
use Rattle.snap_config.specs.declared.options.Command.TheVariants as commands
use Rattle.snap_config.specs.declared.options.Options.{Options}
use Rattle.snap_top.specs.Asked.{asked_by}
use Rattle.snap_top.specs.Entry.{Entry, Exit}
use Rattle.snap_top.specs.Views.{folder_at}

-- the command writes parity or content
abbrev pub writes_array : Command → Bool
writes_array commands.List = false
writes_array commands.Status = false
writes_array commands.Dup = false
writes_array (commands.Sync way) = true
writes_array (commands.Check selection) = false
writes_array (commands.Audit selection) = false
writes_array (commands.Fix selection) = true
writes_array (commands.Scrub way) = true
writes_array (commands.Exercise n) = false

-- the command writes files of folders
abbrev pub writes_files : Command → Bool
writes_files commands.List = false
writes_files commands.Status = false
writes_files commands.Dup = false
writes_files (commands.Sync way) = false
writes_files (commands.Check selection) = false
writes_files (commands.Audit selection) = false
writes_files (commands.Fix selection) = true
writes_files (commands.Scrub way) = false
writes_files (commands.Exercise n) = false

-- no writing call was made of the vault: its count is the one that it was held with
abbrev pub VaultIsUnwritten : Entry → Exit → Type 0
VaultIsUnwritten before exit = exit.after.vault.writes.count ≡ before.opener.vault.writes.count

-- nor of a folder
abbrev pub FoldersAreUnwritten : Entry → Exit → Type 0
FoldersAreUnwritten before exit =
    (d : ℕ) → d < length exit.after.folders → (folder_at exit.after.folders d).writes ≡ (folder_held before.opener d).writes

-- nor of a folder that the opener still holds
abbrev pub HeldAreUnwritten : Entry → Exit → Type 0
HeldAreUnwritten before exit = (d : ℕ) → (folder_held exit.opener d).writes ≡ (folder_held before.opener d).writes

-- A run whose words ask for no sync, scrub or fix makes no writing call of the vault, and one whose words ask for no fix none of a
-- folder. A run with status 2 or 5 makes none at all, and one that opens nothing none of what the opener holds.
pub record WritesAsAsked (before : Entry) (exit : Exit) (status : ℕ) : Type 0 where
  pub vault : (asked : Options) → asked_by before.texts ≡ Ok asked → writes_array asked.command ≡ false → VaultIsUnwritten before exit
  pub folders : (asked : Options) → asked_by before.texts ≡ Ok asked → writes_files asked.command ≡ false → FoldersAreUnwritten before exit
  pub refused : (status ≡ 2) ⊎ (status ≡ 5) → VaultIsUnwritten before exit × FoldersAreUnwritten before exit
  pub unopened : exit.has_vault ≡ false → VaultIsUnwritten before exit × HeldAreUnwritten before exit
