-- The sync of a run as a whole, said without what else the run touches: so it is said of one run after another.
use Rattle.std.specs.Prelude.{◌≡◌, ◌⊎◌, ℕ, ◌<◌, List, None, Some, length, Bool}
use Rattle.content_file.specs.Spelling.{HoldsTable, IsContent, spelling}
use Rattle.disk_model.specs.Files.{Files, content_of}
use Rattle.file_table.specs.Table.{TableValue}
use Rattle.file_table.specs.Valid.{IsValid}
use Rattle.array_setup.specs.Setup.{SetupValue}
use Rattle.snap_sync.specs.Images.{HasParityAfter}
use Rattle.snap_sync.specs.Part.{IsListedRun, SyncRun}
use Rattle.snap_sync.specs.Soundness.{StandsOn}
use Rattle.snap_top.specs.Array.{empty_table}
use Rattle.content_file.specs.Save.{HasSaved}
use Rattle.snap_sync.specs.Resumed.{EndsAs}
use Rattle.snap_sync.specs.Closing.{closed}

-- ---- the table that a run begins with, where no copy's reading fails

-- a copy is absent, or its bytes are no content file
abbrev pub HoldsNoContent : Files → ℕ → Type 0
HoldsNoContent files copy = (bytes : List ℕ) → content_of files copy ≡ Some bytes → ¬ (IsContent bytes)

-- the table of the first copy that is a content file
pub record IsFirstContent (copies : ℕ) (files : Files) (table : TableValue) : Type 0 where
  pub copy : ℕ
  pub within : copy < copies
  pub valid : IsValid table
  pub spells : HoldsTable table (content_of files copy)
  pub first : (k : ℕ) → k < copy → HoldsNoContent files k

abbrev pub HasNoCopy : ℕ → Files → Type 0
HasNoCopy copies files = (copy : ℕ) → copy < copies → content_of files copy ≡ None

-- that table, or where there is no copy that of an array without content
abbrev pub BeginsFrom : SetupValue → List ℕ → ℕ → Files → TableValue → Type 0
BeginsFrom setup seed copies files table =
    IsFirstContent copies files table ⊎ (HasNoCopy copies files × (table ≡ empty_table setup seed))

-- The same, whichever readings failed: the table of some copy, or where there is no copy that of an array without content.
abbrev pub BeginsAmong : SetupValue → List ℕ → ℕ → Files → TableValue → Type 0
BeginsAmong setup seed copies files table =
    ((copy : ℕ) × (copy < copies) × HoldsTable table (content_of files copy)) ⊎ (HasNoCopy copies files × (table ≡ empty_table setup seed))

-- ---- a sync over the files of a vault

-- Its folders were listed and their pending stripes read, from a table that was loaded of so many copies of these files.
pub record SyncsOver (copies : ℕ) (files : Files) (run : SyncRun) : Type 0 where
  pub listed : IsListedRun run
  pub stands : StandsOn run.plan run.loaded files
  pub copies_are : run.plan.copies ≡ copies

-- ---- what a sync leaves

-- What two syncs left: each copy of both spells a table, and these are the same but for the times of the last checks; parity is the same in all
-- stripes of the table, but for what was changed from outside.
pub record EndAlike (copies : ℕ) (is_changed : ℕ → ℕ → Bool) (one other : Files) : Type 0 where
  pub table : TableValue
  pub other_table : TableValue
  pub saved : HasSaved copies (spelling table) one
  pub other_saved : HasSaved copies (spelling other_table) other
  pub alike : EndsAs table is_changed table other_table one other

-- the table of a sync that read all its stripes
abbrev pub end_table : SyncRun → TableValue
end_table run = closed run.plan.now run.plan.start run.readings

-- What a sync that ended leaves: each copy spells its table, and parity has the sums of the stripes that are synced now.
pub record LeavesSynced (run : SyncRun) (old new : Files) : Type 0 where
  pub saved : HasSaved run.plan.copies (spelling (end_table run)) new
  pub parity : HasParityAfter run.plan run.readings (length run.readings) old new
