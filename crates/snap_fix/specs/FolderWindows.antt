-- In which order a folder gets all calls of a fix: window after window its cells are read, and only then written, and behind all windows
-- its files are finished.
use Rattle.std.specs.Prelude.{◌≡◌, ℕ, ◌<◌, List, [], ◌∷◌, ◌++◌, length}
use Rattle.disk_model.specs.Folder.{FolderView, FolderDone}
use Rattle.parity_writer.specs.LevelReading.{LevelReading}
use Rattle.stripe_reader.specs.Columns.{folder_at}
use Rattle.stripe_reader.specs.Starts.{StartsValue, starts_at}
use Rattle.file_restorer.specs.declared.finishing.Finish.{Finish}
use Rattle.file_restorer.specs.declared.state.FileState.{FileState}
use Rattle.file_restorer.specs.State.{FolderMakesBy, KeepsStarts}
use Rattle.repair_scope.specs.Plan.{FixPlan}
use Rattle.snap_fix.specs.Ending.{AreColumnFinishCalls, finishes_at, states_at}
use Rattle.snap_fix.specs.Fixing.{facts_of}
use Rattle.snap_fix.specs.Mended.{Mended}
use Rattle.snap_fix.specs.Reads.{AreReadBy}
use Rattle.snap_fix.specs.Underway.{AreAllMendCalls}
use Rattle.snap_fix.specs.Windows.{AreWindows, FixWindow}

-- The calls for a window of these stripes, by where the files stood before it: all its cells are read, stripe after stripe, each once; then
-- the blocks of its cells that are to be written are, stripe after stripe; and no other call is made.
pub record AreWindowCalls (plan : FixPlan) (starts : StartsValue) (d : ℕ) (stripes : List Mended) (done : List FolderDone) : Type 0 where
  pub reads : List FolderDone
  pub writes : List FolderDone
  pub done_is : done ≡ reads ++ writes
  pub read : AreReadBy plan starts starts d (facts_of stripes) reads
  pub wrote : AreAllMendCalls plan starts d stripes writes

-- Those for windows, one after another: from where the files stood at first to where they stand at the end. Each window keeps the starts
-- of those before it, and has its own stripes.
abbrev pub AreAllWindowCalls : FixPlan → StartsValue → StartsValue → ℕ → List FixWindow → List Mended → List FolderDone → Type 0
AreAllWindowCalls plan begun ended d [] stripes done = KeepsStarts begun ended × (stripes ≡ []) × (done ≡ [])
AreAllWindowCalls plan begun ended d (window ∷ windows) stripes done =
    (starts : StartsValue) × (here : List Mended) × (behind : List Mended) × (first : List FolderDone) × (rest : List FolderDone)
    × KeepsStarts begun starts × (stripes ≡ here ++ behind) × (facts_of here ≡ window.stripes) × (done ≡ first ++ rest)
    × AreWindowCalls plan starts d here first × AreAllWindowCalls plan starts ended d windows behind rest

-- All calls of a folder, once it is listed: those for the windows, and then, by where the files stand and what was done to them, those that
-- finish its files.
pub record AreInWindows (plan : FixPlan) (begun ended : StartsValue) (states : List (List FileState)) (d : ℕ) (windows : List FixWindow)
    (stripes : List Mended) (finishes : List Finish) (done : List FolderDone) : Type 0 where
  pub first : List FolderDone
  pub last : List FolderDone
  pub done_is : done ≡ first ++ last
  pub windows_are : AreAllWindowCalls plan begun ended d windows stripes first
  pub finished : AreColumnFinishCalls plan d (starts_at ended.columns d) (states_at states d) finishes last

-- just such calls were made of a folder, and a stop within them leaves what it may
abbrev pub GoesInWindows : FixPlan → StartsValue → StartsValue → List (List FileState) → ℕ → List FixWindow → List Mended → List Finish
    → FolderView → FolderView → Type 0
GoesInWindows plan begun ended states d windows stripes finishes old new =
    FolderMakesBy (AreInWindows plan begun ended states d windows stripes finishes) old new

-- The stripes are cut into windows, each but the last one full, and all folders got their calls for these: as there is one such cut, it is
-- that by which the vault gets its calls. What was read of levels plays no part.
pub record WriteInWindows (plan : FixPlan) (begun ended : StartsValue) (stripes : List Mended) (olds news : List FolderView) : Type 0 where
  pub windows : List FixWindow
  pub readings : List (List LevelReading)
  pub windows_are : AreWindows plan windows (facts_of stripes) readings
  pub each : (d : ℕ) → d < length plan.table.columns
      → FolderMakesBy (AreAllWindowCalls plan begun ended d windows stripes) (folder_at olds d) (folder_at news d)

-- and then those that finish files
pub record GoInWindows (plan : FixPlan) (begun ended : StartsValue) (states : List (List FileState)) (stripes : List Mended)
    (finishes : List (List Finish)) (olds news : List FolderView) : Type 0 where
  pub windows : List FixWindow
  pub readings : List (List LevelReading)
  pub windows_are : AreWindows plan windows (facts_of stripes) readings
  pub each : (d : ℕ) → d < length plan.table.columns
      → GoesInWindows plan begun ended states d windows stripes (finishes_at finishes d) (folder_at olds d) (folder_at news d)
