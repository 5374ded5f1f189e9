-- How far a fix is with the files of its columns.
use Rattle.std.specs.Prelude.{◌≡◌, ◌⊎◌, ℕ, ◌*◌, ◌<◌, ◌≤◌, List, [], ◌∷◌, ◌++◌, length, map, filter, get_or, All, Bool, true, false, if◌then◌else◌, Option, None, Some, IsTrue, Contains}
use Rattle.std.specs.List.{range_with_len, flat_map}
use Rattle.disk_model.specs.Files.{Files, parity_of}
use Rattle.disk_model.specs.Folder.{FolderView, FolderCall, FolderDone, SomeFolderCalls, ListFiles, Look, ReadAt, Make, WriteAt, SetSize, SetStamp, Rename}
use Rattle.disk_model.specs.Tree.{IsTree}
use Rattle.disk_model.specs.Vault.{plain_done, VaultCall, VaultDone, ParityWrite}
use Rattle.cauchy.specs.Matrix.{parity_of as level_of}
use Rattle.file_table.specs.Table.{records_in}
use Rattle.file_table.specs.declared.block.Cell.{Cell}
use Rattle.parity_writer.specs.Keeps.{HasByte, IsOutside}
use Rattle.parity_writer.specs.Parity.{Row, HasLevel}
use Rattle.snap_report.specs.Answer.{is_reading}
use Rattle.stripe_reader.specs.Columns.{folder_at}
use Rattle.stripe_reader.specs.Starts.{StartsValue, starts_at, start_in}
use Rattle.stripe_reader.specs.declared.starts.Place.{Place}
use Rattle.stripe_reader.specs.declared.starts.Place.TheVariants.{Lost, Nowhere}
use Rattle.file_restorer.specs.declared.state.FileState.{FileState}
use Rattle.stripe_examiner.specs.Facts.{StripeFacts}
use Rattle.snap_fix.specs.Mended.{Mended, is_gone, is_repaired, is_wrong_level, has_lost, column_writes, writes_of}
use Rattle.stripe_examiner.specs.Showing.{known_block, block_or_none}
use Rattle.file_restorer.specs.Breaking.{StepFails}
use Rattle.file_restorer.specs.Mending.{IsFree, block_start, cell_path}
use Rattle.file_restorer.specs.Order.{FolderWrites, block_calls, is_writing}
use Rattle.repair_scope.specs.Plan.{FixPlan, cell_at, entry_at}
use Rattle.file_restorer.specs.State.{AreStepCalls, HoldsTold, StaysPlace, WellCall, has_some, record_path, size_after, state_in}
use Rattle.snap_fix.specs.StripeOrder.{writes_after}

-- ---- what a fix stands on

-- A folder as it was listed: it is open, if the column has records, and, where it tells its files, they are a tree in
-- which the file of each record that isn't blocked may stand.
pub record IsFixable (plan : FixPlan) (d : ℕ) (first : FolderView) : Type 0 where
  pub is_open : 0 < length (records_in plan.table d) → first.closed ≡ false
  pub is_tree : IsTrue first.tells → IsTree first.tree
  pub free : IsTrue first.tells → (i : ℕ) → i < length (records_in plan.table d) → (entry_at plan d i).blocked ≡ false
      → IsFree first.tree (record_path (records_in plan.table d) i)

abbrev pub AreFixable : FixPlan → List FolderView → Type 0
AreFixable plan firsts = (d : ℕ) → d < length plan.table.columns → IsFixable plan d (folder_at firsts d)

-- ---- by which calls

-- the write of the block of a cell that is to be written, to the file of its record
pub record WritesCell (plan : FixPlan) (d : ℕ) (facts : StripeFacts) (path : List ℕ) (at : ℕ) (bytes : List ℕ)
    : Type 0 where
  pub repaired : is_repaired plan facts d ≡ true
  pub cell : Cell
  pub cell_is : cell_at plan facts.stripe d ≡ Some cell
  pub path_is : path ≡ record_path (records_in plan.table d) cell.rec
  pub at_is : at ≡ block_start plan.table cell
  pub bytes_are : bytes ≡ block_or_none (known_block plan facts d)

-- in one of the stripes
pub record WritesOneOf (plan : FixPlan) (d : ℕ) (stripes : List Mended) (path : List ℕ) (at : ℕ) (bytes : List ℕ)
    : Type 0 where
  pub mended : Mended
  pub is_one : Contains stripes mended
  pub writes : WritesCell plan d mended.facts path at bytes

-- the file of a cell that is to be written is put under PATH: it stood in this place
pub record SetsUpCell (plan : FixPlan) (starts : StartsValue) (d : ℕ) (facts : StripeFacts) (place : Place)
    (path : List ℕ) : Type 0 where
  pub repaired : is_repaired plan facts d ≡ true
  pub cell : Cell
  pub cell_is : cell_at plan facts.stripe d ≡ Some cell
  pub path_is : path ≡ record_path (records_in plan.table d) cell.rec
  pub stood : (start_in (starts_at starts.columns d) cell.rec).place ≡ place

-- in one of the stripes
pub record SetsUpOneOf (plan : FixPlan) (starts : StartsValue) (d : ℕ) (stripes : List Mended) (place : Place)
    (path : List ℕ) : Type 0 where
  pub mended : Mended
  pub is_one : Contains stripes mended
  pub sets_up : SetsUpCell plan starts d mended.facts place path

-- The calls while blocks of stripes are written, by where files stood before: of a cell that is to be written its file
-- is made if there was none, or renamed back if it had the other name, and its block is written.
abbrev pub IsMendCall : FixPlan → StartsValue → ℕ → List Mended → FolderCall → Type 0
IsMendCall plan starts d stripes ListFiles = ⊥
IsMendCall plan starts d stripes (Look path lost) = ⊥
IsMendCall plan starts d stripes (ReadAt path lost at n) = ⊥
IsMendCall plan starts d stripes (Make path) = SetsUpOneOf plan starts d stripes Nowhere path
IsMendCall plan starts d stripes (WriteAt path at bytes) = WritesOneOf plan d stripes path at bytes
IsMendCall plan starts d stripes (SetSize path size) = ⊥
IsMendCall plan starts d stripes (SetStamp path stamp) = ⊥
IsMendCall plan starts d stripes (Rename path true) = ⊥
IsMendCall plan starts d stripes (Rename path false) = SetsUpOneOf plan starts d stripes Lost path

-- the calls that write the block of a cell, by the place of its file, and by whether a call of this run put that under PATH before
abbrev pub calls_of_cell : FixPlan → ℕ → StripeFacts → Place → Bool → Option Cell → List FolderCall
calls_of_cell plan d facts place touched None = []
calls_of_cell plan d facts place touched (Some cell) =
    block_calls place touched (cell_path plan.table d cell) (block_start plan.table cell) (block_or_none (known_block plan facts d))

-- those of a stripe, where the block is to be written
abbrev pub repair_calls : FixPlan → ℕ → StripeFacts → Place → Bool → List FolderCall
repair_calls plan d facts place touched =
    if is_repaired plan facts d then calls_of_cell plan d facts place touched (cell_at plan facts.stripe d) else []

-- The calls that write the cell of a column in a stripe anew, whose file stood in this place then. Where it is written, they are just
-- its calls, and each found its file. One of them found no file exactly where the cell was to be written and its file was gone: they
-- are its calls up to that one.
pub record AreMendCalls (plan : FixPlan) (starts : StartsValue) (d : ℕ) (mended : Mended) (done : List FolderDone) : Type 0 where
  pub place : Place
  pub stood : is_repaired plan mended.facts d ≡ true → (cell : Cell) → cell_at plan mended.facts.stripe d ≡ Some cell
      → StaysPlace (start_in (starts_at starts.columns d) cell.rec).place place
  pub touched : Bool
  pub are : AreStepCalls (IsMendCall plan starts d (mended ∷ [])) (repair_calls plan d mended.facts place touched) (is_gone plan mended d) done

-- Calls for the cell of a column in a stripe, whose file stood in this place then: they are its calls up to one that failed, and each
-- before that found its file.
pub record FailsInMend (plan : FixPlan) (starts : StartsValue) (d : ℕ) (mended : Mended) (old new : FolderView) : Type 0 where
  pub place : Place
  pub stood : (cell : Cell) → cell_at plan mended.facts.stripe d ≡ Some cell → StaysPlace (start_in (starts_at starts.columns d) cell.rec).place place
  pub touched : Bool
  pub fails : StepFails (IsMendCall plan starts d (mended ∷ [])) (repair_calls plan d mended.facts place touched) old new

-- those of stripes, one after another
abbrev pub AreAllMendCalls : FixPlan → StartsValue → ℕ → List Mended → List FolderDone → Type 0
AreAllMendCalls plan starts d [] done = done ≡ []
AreAllMendCalls plan starts d (mended ∷ stripes) done =
    (first : List FolderDone) × (rest : List FolderDone) × (done ≡ first ++ rest)
    × AreMendCalls plan starts d mended first × AreAllMendCalls plan starts d stripes rest

-- a call while stripes are looked at and written anew
abbrev pub IsStripeCall : FixPlan → StartsValue → ℕ → List Mended → FolderCall → Type 0
IsStripeCall plan starts d stripes call = (is_reading call ≡ true) ⊎ IsMendCall plan starts d stripes call

-- The calls while stripes are looked at and written anew: none failed but readings, and those that write are those for
-- the cells of the stripes, one after another.
pub record AreStripeCalls (plan : FixPlan) (starts : StartsValue) (d : ℕ) (stripes : List Mended)
    (done : List FolderDone) : Type 0 where
  pub each : All (WellCall (IsStripeCall plan starts d stripes)) done
  pub writes : AreAllMendCalls plan starts d stripes (filter is_writing done)

-- ---- how far it is

-- A column, since its folder was listed: some calls were made, the files hold what was written to them, and the states
-- say which have a lost block. Where the folder tells its files, just those were touched to which something was
-- written, and the calls that write came stripe after stripe.
pub record IsColumnUnderway (plan : FixPlan) (d : ℕ) (stripes : List Mended) (first now : FolderView)
    (starts : StartsValue) (states : List (List FileState)) : Type 0 where
  pub calls : SomeFolderCalls first now
  pub holds : HoldsTold (records_in plan.table d) (starts_at starts.columns d) (get_or states d [])
      (column_writes plan stripes d (length (records_in plan.table d))) first now
  pub lost : (i : ℕ) → i < length (records_in plan.table d) → (state_in states d i).lost ≡ has_lost plan stripes d i
  pub sizes : (i : ℕ) → i < length (records_in plan.table d) → (state_in states d i).size
      ≡ size_after (start_in (starts_at starts.columns d) i).size (writes_of plan stripes d i)
  pub wrote : (i : ℕ) → i < length (records_in plan.table d) → has_some (writes_of plan stripes d i) ≡ true
      → (state_in states d i).touched ≡ true
  pub touched : IsTrue first.tells → (i : ℕ) → i < length (records_in plan.table d)
      → (state_in states d i).touched ≡ has_some (writes_of plan stripes d i)
  pub ordered : IsTrue first.tells → FolderWrites (writes_after plan d first.tree [] stripes) first now

pub record AreUnderway (plan : FixPlan) (stripes : List Mended) (firsts nows : List FolderView) (starts : StartsValue)
    (states : List (List FileState)) : Type 0 where
  pub folders : length nows ≡ length firsts
  pub each : (d : ℕ) → d < length plan.table.columns
      → IsColumnUnderway plan d stripes (folder_at firsts d) (folder_at nows d) starts states

-- what was known at the start of a fix that is underway
pub record FixUnderway (plan : FixPlan) (nows : List FolderView) (starts : StartsValue) (states : List (List FileState))
    : Type 0 where
  pub stripes : List Mended
  pub firsts : List FolderView
  pub fixable : AreFixable plan firsts
  pub underway : AreUnderway plan stripes firsts nows starts states

-- ---- levels

-- the write of a level of a stripe
abbrev pub level_write : FixPlan → StripeFacts → Row → ℕ → VaultCall
level_write plan facts row r =
    ParityWrite r (facts.stripe * plan.table.shape.block_size) (level_of r plan.table.shape.block_size row)

-- the writes of the wrong levels of a stripe, in order
abbrev pub wrong_write : FixPlan → StripeFacts → Option Row → ℕ → List VaultCall
wrong_write plan facts None r = []
wrong_write plan facts (Some row) r = if is_wrong_level plan facts r then level_write plan facts row r ∷ [] else []

abbrev pub wrong_writes : FixPlan → StripeFacts → List VaultCall
wrong_writes plan facts = flat_map (wrong_write plan facts facts.row) (range_with_len 0 (length facts.levels))

-- calls of which none failed
abbrev pub done_well : List VaultCall → List VaultDone
done_well calls = map (λ (call : VaultCall). plain_done call false) calls

-- such a block of a level is written anew
abbrev pub IsMendedLevel : FixPlan → List StripeFacts → ℕ → ℕ → Type 0
IsMendedLevel plan stripes r stripe =
    (facts : StripeFacts) × Contains stripes facts × (facts.stripe ≡ stripe) × (is_wrong_level plan facts r ≡ true)

-- The copies stay, and so does each byte of a level outside of the blocks of it that are written anew. A level grows
-- only up to such blocks.
pub record KeepsLevels (block_size : ℕ) (IsOne : ℕ → ℕ → Type 0) (old new : Files) : Type 0 where
  pub contents : new.contents ≡ old.contents
  pub bytes : (level at x : ℕ) → ((stripe : ℕ) → IsOne level stripe → IsOutside block_size stripe at)
      → HasByte (parity_of old level) at x → HasByte (parity_of new level) at x
  pub grown : (level at x : ℕ) → ((stripe : ℕ) → IsOne level stripe → IsOutside block_size stripe at)
      → HasByte (parity_of new level) at x
      → HasByte (parity_of old level) at x ⊎ ((stripe : ℕ) × IsOne level stripe × (at < stripe * block_size))

-- each byte that a level grew by outside of these blocks is zero
abbrev pub AddsZeros : ℕ → (ℕ → ℕ → Type 0) → Files → Files → Type 0
AddsZeros block_size IsOne old new =
    (level at x : ℕ) → ((stripe : ℕ) → IsOne level stripe → IsOutside block_size stripe at)
    → length (parity_of old level) ≤ at → HasByte (parity_of new level) at x → x ≡ 0

-- the wrong levels of a stripe hold the sums of its row
abbrev pub HoldsWrong : FixPlan → StripeFacts → Files → Type 0
HoldsWrong plan facts files = (r : ℕ) (row : Row) → is_wrong_level plan facts r ≡ true → facts.row ≡ Some row
    → HasLevel plan.table.shape.block_size r facts.stripe row (parity_of files r)
