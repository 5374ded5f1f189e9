-- Which calls of a vault or of a folder end a fix where they fail, and which were made before.
use Rattle.std.specs.Prelude.{◌≡◌, ℕ, ◌<◌, List, [], ◌∷◌, ◌++◌, Bool, true, false, if◌then◌else◌, IsTrue, All}
use Rattle.disk_model.specs.Answer.{is_failure}
use Rattle.disk_model.specs.Cause.{Rose}
use Rattle.disk_model.specs.Folder.{FolderView, FolderCall, FolderDone, FolderGoesOn}
use Rattle.disk_model.specs.Stopped.{MayBeLeft}
use Rattle.disk_model.specs.Tree.{IsTree}
use Rattle.disk_model.specs.declared.answer.Answer.TheVariants.{Failed}
use Rattle.disk_model.specs.Vault.{plain_done, VaultView, VaultCall, VaultDone, GoesOn, ParityLen, ParityRead, ParityWrite, ParitySetLen, ParitySync, ContentSize, ContentRead, DraftBegin, DraftAppend, DraftSeal, Publish}
use Rattle.snap_report.specs.Answer.{is_reading}
use Rattle.stripe_reader.specs.Columns.{folder_at}
use Rattle.file_restorer.specs.State.{WellCall, FolderMakesBy, calls_made, has_missing}

-- ---- of a vault

-- parity is written or synced
abbrev pub writes_parity : VaultCall → Bool
writes_parity (ParityLen level) = false
writes_parity (ParityRead level at n) = false
writes_parity (ParityWrite level at bytes) = true
writes_parity (ParitySetLen level len) = false
writes_parity (ParitySync level) = true
writes_parity (ContentSize copy) = false
writes_parity (ContentRead copy at n) = false
writes_parity (DraftBegin copy) = false
writes_parity (DraftAppend copy bytes) = false
writes_parity (DraftSeal copy) = false
writes_parity (Publish copy) = false

-- such a call failed
abbrev pub broke_parity : VaultDone → Bool
broke_parity done = if writes_parity done.call then is_failure done.answer else false

-- The first ones of some calls were made, and then one more, which writes or syncs parity and failed.
pub record FailsIn (whole done : List VaultDone) : Type 0 where
  pub front : List VaultDone
  pub call : VaultCall
  pub writes : writes_parity call ≡ true
  pub rest : List VaultDone
  pub whole_is : whole ≡ front ++ plain_done call false ∷ rest
  pub done_is : done ≡ front ++ plain_done call true ∷ []

-- Just these calls were made, and then of others the first ones and one that failed.
pub record FailsAfter (before others : List VaultDone) (old new : VaultView) : Type 0 where
  pub done : List VaultDone
  pub fails : FailsIn others done
  pub goes_on : GoesOn old new (before ++ done)

-- ---- of a folder

-- Such calls that went well, and then one more, the last, which does not read and failed.
pub record FailsLast (P : FolderCall → Type 0) (done : List FolderDone) : Type 0 where
  pub front : List FolderDone
  pub each : All (WellCall P) front
  pub call : FolderCall
  pub is : P call
  pub writes : is_reading call ≡ false
  pub done_is : done ≡ front ++ record { call = call; answer = Failed } ∷ []

-- Just such calls were made of a folder, and its count of faults rose. Where it tells its files, what it holds then is among what a stop
-- within these calls may leave.
pub record FolderFails (P : FolderCall → Type 0) (old new : FolderView) : Type 0 where
  pub rose : Rose old.faults new.faults
  pub done : List FolderDone
  pub fails : FailsLast P done
  pub goes_on : FolderGoesOn old new done
  pub left : IsTrue old.tells → IsTree old.tree → MayBeLeft old.keeps done old.tree new.tree

-- The same of the calls for one file: the first ones of these were made, in this order, up to the one that failed, and each before it
-- found its file.
pub record StepFails (P : FolderCall → Type 0) (calls : List FolderCall) (old new : FolderView) : Type 0 where
  pub fails : FolderFails P old new
  pub found : has_missing fails.fails.front ≡ false
  pub rest : List FolderCall
  pub calls_are : calls ≡ calls_made fails.fails.front ++ fails.fails.call ∷ rest

-- ---- of the folders of all columns, which are come to one after another

-- The folder of a column failed: of each before it calls were made of which this holds, of it such calls and then the
-- one that failed, and those behind it are as they were.
pub record FailsInColumn (disk columns : ℕ) (Before : ℕ → List FolderDone → Type 0) (P : ℕ → FolderCall → Type 0)
    (olds news : List FolderView) : Type 0 where
  pub within : disk < columns
  pub before : (d : ℕ) → d < disk → FolderMakesBy (Before d) (folder_at olds d) (folder_at news d)
  pub here : FolderFails (P disk) (folder_at olds disk) (folder_at news disk)
  pub behind : (d : ℕ) → disk < d → d < columns → folder_at news d ≡ folder_at olds d
