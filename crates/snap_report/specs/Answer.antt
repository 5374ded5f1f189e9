-- How an engine ended: the status of each answer, its line on the standard error, and what must have happened.
use Rattle.std.specs.Prelude.{◌≡◌, ℕ, ◌<◌, ◌≤◌, ◌+◌, ◌==◌, ◌⊎◌, List, [], ◌∷◌, ◌++◌, length, slice_index_or, codes, count_by, Bool, true, false, IsTrue, Option, None, Some, if◌then◌else◌}
use Rattle.std.specs.Fmt.{decimal}
use Rattle.std.specs.List.{list_any}
use Rattle.disk_model.specs.Answer.{is_failure}
use Rattle.disk_model.specs.Cause.{RoseBy, Rose}
use Rattle.disk_model.specs.Folder.{FolderView, FolderCall, FolderDone, Look, ReadAt, quiet_folder}
use Rattle.disk_model.specs.Vault.{VaultState, VaultCall, VaultDone, ParityRead}
use Rattle.snap_report.specs.EventLines.{joined}
use Rattle.snap_report.specs.Text.{printed, file_text}
use Rattle.snap_report.specs.declared.events.Event.{Event}
use Rattle.snap_report.specs.declared.events.Event.TheVariants.{Io, ParityIo}
use Rattle.snap_report.specs.declared.answer.RunFault.TheVariants.{Folder, Vault, Memory}
use Rattle.snap_report.specs.declared.answer.Answer.{Answer}
use Rattle.snap_report.specs.declared.answer.Answer.TheVariants.{Clean, Found, OutputFailed, Zeroed, Emptied, Full, Broken}

-- that of an engine that is done: how many findings count, and whether a write to the output failed
abbrev pub done_answer : ℕ → Bool → Answer
done_answer findings output_failed = if output_failed then OutputFailed else (if findings == 0 then Clean else Found)

abbrev pub status_of : Answer → ℕ
status_of Clean = 0
status_of Found = 1
status_of OutputFailed = 3
status_of (Zeroed disk rec) = 2
status_of (Emptied disk) = 2
status_of (Full blocks files) = 2
status_of (Broken (Folder disk)) = 3
status_of (Broken Vault) = 3
status_of (Broken Memory) = 4

-- the disk that the line of an answer names
abbrev pub disk_of : Answer → Option ℕ
disk_of (Zeroed disk rec) = Some disk
disk_of (Emptied disk) = Some disk
disk_of (Broken (Folder disk)) = Some disk
disk_of _ = None

-- the line of an answer, with the name of that disk, and the path of the file that it names
abbrev pub answer_line : List ℕ → List ℕ → Answer → List ℕ
answer_line name path Clean = []
answer_line name path Found = []
answer_line name path OutputFailed = codes "snapraid: output failed\n"
answer_line name path (Zeroed disk rec) =
    joined (codes "snapraid: file '" ∷ file_text name path ∷ codes "' has become empty, use --force-zero\n" ∷ [])
answer_line name path (Emptied disk) =
    joined (codes "snapraid: all files of disk '" ∷ printed name ∷ codes "' are missing or rewritten, use --force-empty\n" ∷ [])
answer_line name path (Full blocks files) =
    joined (codes "snapraid: " ∷ decimal blocks ∷ codes " blocks and " ∷ decimal files ∷ codes " files are too many\n" ∷ [])
answer_line name path (Broken (Folder disk)) = joined (codes "snapraid: disk '" ∷ printed name ∷ codes "' failed\n" ∷ [])
answer_line name path (Broken Vault) = codes "snapraid: parity or content failed\n"
answer_line name path (Broken Memory) = codes "snapraid: out of memory\n"

-- an event of a failed reading of this disk, and of a level
abbrev pub is_io_of : ℕ → Event → Bool
is_io_of disk (Io stripe of rec index) = of == disk
is_io_of disk _ = false

abbrev pub is_parity_io : Event → Bool
is_parity_io (ParityIo stripe level) = true
is_parity_io _ = false

-- A call of a folder that looks or reads, and one of a vault that reads parity: the run goes on without its answer.
abbrev pub is_reading : FolderCall → Bool
is_reading (Look path lost) = true
is_reading (ReadAt path lost at n) = true
is_reading _ = false

abbrev pub is_parity_reading : VaultCall → Bool
is_parity_reading (ParityRead level at n) = true
is_parity_reading _ = false

abbrev pub broke_folder : FolderDone → Bool
broke_folder done = if is_reading done.call then false else is_failure done.answer

abbrev pub broke_vault : VaultDone → Bool
broke_vault done = if is_parity_reading done.call then false else is_failure done.answer

-- among the calls that a list gained, one has this test
pub record Gained {A : Type 0} (test : A → Bool) (before now : List A) : Type 0 where
  pub gained : List A
  pub now_is : now ≡ before ++ gained
  pub one : IsTrue (list_any test gained)

-- A folder failed otherwise than in the readings that were told.
pub record FolderFailed (disk : ℕ) (told : List Event) (old new : FolderView) : Type 0 where
  pub rose : RoseBy (count_by (is_io_of disk) told + 1) old.faults new.faults
  pub call : IsTrue new.tells_calls → Gained broke_folder old.calls new.calls

-- the same of a vault
pub record VaultFailed (told : List Event) (old new : VaultState) : Type 0 where
  pub rose : RoseBy (count_by is_parity_io told + 1) old.faults new.faults
  pub call : IsTrue new.tells_calls → Gained broke_vault old.calls new.calls

-- what is outside of an engine: the folders, the vault, and the count of faults of the output
pub record Outside : Type 0 where
  pub folders : List FolderView
  pub vault : VaultState
  pub output_faults : ℕ

abbrev pub folder_at : Outside → ℕ → FolderView
folder_at outside disk = slice_index_or outside.folders disk (quiet_folder 0 false)

-- What must have happened for an answer: by how many findings count, by the events that were told, and by what is
-- outside, before and after. A refusal of the layout has its cause in the layout; running out of memory is free.
abbrev pub IsCaused : Answer → ℕ → List Event → Outside → Outside → Type 0
IsCaused Clean counted told old new = counted ≡ 0
IsCaused Found counted told old new = 1 ≤ counted
IsCaused OutputFailed counted told old new = Rose old.output_faults new.output_faults
IsCaused (Broken (Folder disk)) counted told old new = (disk < length old.folders) × FolderFailed disk told (folder_at old disk) (folder_at new disk)
IsCaused (Broken Vault) counted told old new = VaultFailed told old.vault new.vault
IsCaused _ counted told old new = Unit {0}

-- the count of a folder, of the vault or of the output rose
abbrev pub SomeRose : Outside → Outside → Type 0
SomeRose old new =
    ((disk : ℕ) × (disk < length old.folders) × Rose (folder_at old disk).faults (folder_at new disk).faults)
    ⊎ (Rose old.vault.faults new.vault.faults ⊎ Rose old.output_faults new.output_faults)
