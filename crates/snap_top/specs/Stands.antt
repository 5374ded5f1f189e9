-- What stands in the vault at a moment of a run, and what of an opener the proof sees.
use Rattle.std.specs.Prelude.{◌≡◌, ◌⊎◌, IsTrue}
use Rattle.disk_model.specs.Files.{Files}
use Rattle.disk_model.specs.Moments.{MayLeave}
use Rattle.disk_model.specs.Vault.{IsSettled}
use Rattle.snap_sync.specs.Part.{AllTell}
use Rattle.snap_top.specs.Entry.{Entry, Exit}

-- the opener tells what it holds, and so does its vault
pub record TellsVault (before : Entry) : Type 0 where
  pub tells : IsTrue before.opener.tells
  pub tells_vault : IsTrue before.opener.vault.tells

-- The opener tells what it holds, and so does its vault, which was opened anew: nothing of it is unsynced.
pub record HoldsFresh (before : Entry) : Type 0 where
  pub tells : IsTrue before.opener.tells
  pub tells_vault : IsTrue before.opener.vault.tells
  pub settled : IsSettled before.opener.vault

-- the files of the vault as they read at the end of a run, or as a stop at some moment since its beginning might leave them
abbrev pub StandsIn : Entry → Exit → Files → Type 0
StandsIn before exit files = (files ≡ exit.after.vault.files)
    ⊎ (IsTrue exit.after.vault.images.told × exit.after.vault.images.since before.opener.vault.images.moment files)

-- the files of the vault as they read at the end of a run, or as a stop then might leave them
abbrev pub StandsAfter : Exit → Files → Type 0
StandsAfter exit files = (files ≡ exit.after.vault.files) ⊎ (IsTrue exit.after.vault.images.told × MayLeave exit.after.vault.images files)

-- the opener tells what it holds, and so do its vault and its folders
pub record TellsAll (before : Entry) : Type 0 where
  pub tells : IsTrue before.opener.tells
  pub tells_vault : IsTrue before.opener.vault.tells
  pub tells_folders : AllTell before.opener.folders
