-- By which calls of a folder the stripes of a fix are read, while their cells are written.
use Rattle.std.specs.Prelude.{◌≡◌, ℕ, List, [], ◌∷◌, ◌++◌, filter, Bool}
use Rattle.disk_model.specs.Folder.{FolderView, FolderDone, FolderGoesOn}
use Rattle.snap_report.specs.Answer.{is_reading}
use Rattle.stripe_reader.specs.FolderCalls.{AreCellCalls}
use Rattle.stripe_reader.specs.Reading.{CellReading, task_at}
use Rattle.stripe_reader.specs.Slot.{kept}
use Rattle.stripe_reader.specs.Starts.{StartsValue}
use Rattle.stripe_examiner.specs.Facts.{StripeFacts, slot_of}
use Rattle.repair_scope.specs.Plan.{FixPlan}
use Rattle.file_restorer.specs.State.{KeepsStarts}

-- a call that looks at a file or reads one
abbrev pub is_read : FolderDone → Bool
is_read done = is_reading done.call

-- Of all calls of a folder this holds of those that read, in their order; as far as the folder tells its calls.
pub record FolderReads (P : List FolderDone → Type 0) (old new : FolderView) : Type 0 where
  pub done : List FolderDone
  pub goes_on : FolderGoesOn old new done
  pub are : P (filter is_read done)

-- none of them reads
abbrev pub IsQuiet : List FolderDone → Type 0
IsQuiet done = done ≡ []

-- The cell of a column in a stripe was read by these calls, its file looked for where it stood by these starts: at most
-- one look and one reading. Its slot keeps what they answered.
pub record IsReadBy (plan : FixPlan) (starts : StartsValue) (d : ℕ) (facts : StripeFacts) (done : List FolderDone)
    : Type 0 where
  pub reading : CellReading
  pub are : AreCellCalls (task_at plan.table starts d facts.stripe) reading done
  pub is_kept : slot_of facts d ≡ kept plan.table.shape reading

-- The cells of a column were read, stripe after stripe, each once, by where the files stood then: from where they stood
-- at first to where they stand at the end, of which each keeps those before it.
abbrev pub AreReadBy : FixPlan → StartsValue → StartsValue → ℕ → List StripeFacts → List FolderDone → Type 0
AreReadBy plan begun ended d [] done = KeepsStarts begun ended × (done ≡ [])
AreReadBy plan begun ended d (facts ∷ stripes) done =
    (starts : StartsValue) × (first : List FolderDone) × (rest : List FolderDone) × KeepsStarts begun starts
    × (done ≡ first ++ rest) × IsReadBy plan starts d facts first × AreReadBy plan starts ended d stripes rest

-- The same, wherever the files stand at the end.
abbrev pub AreAllRead : FixPlan → StartsValue → ℕ → List StripeFacts → List FolderDone → Type 0
AreAllRead plan begun d stripes done = (ended : StartsValue) × AreReadBy plan begun ended d stripes done
