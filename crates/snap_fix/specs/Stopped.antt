-- What surely stands of the files of a folder, wherever a fix is stopped or breaks off.
use Rattle.std.specs.Prelude.{◌≡◌, ◌≢◌, ◌⊎◌, ℕ, ◌+◌, ◌<◌, ◌≤◌, List, length, slice_index, Bool, true, false, Option, None, Some, All, Contains}
use Rattle.disk_model.specs.Folder.{FolderCall, FolderDone, ListFiles}
use Rattle.disk_model.specs.Stopped.{MayBeLeft}
use Rattle.disk_model.specs.Tree.{Tree, File, file_of, path_of}
use Rattle.disk_model.specs.declared.meta.Stamp.{Stamp}
use Rattle.file_table.specs.Table.{Record, record_at, records_in}
use Rattle.file_table.specs.Valid.{IsValid}
use Rattle.file_table.specs.declared.block.Cell.{Cell}
use Rattle.parity_writer.specs.Keeps.{HasByte}
use Rattle.stripe_reader.specs.Reading.{block_length}
use Rattle.stripe_reader.specs.Starts.{StartsValue, start_in, starts_at}
use Rattle.snap_fix.specs.Ending.{is_finished}
use Rattle.snap_fix.specs.FixCourse.{IsFixCall}
use Rattle.snap_fix.specs.Fixing.{facts_of}
use Rattle.stripe_examiner.specs.Known.{AreFacts}
use Rattle.snap_fix.specs.Mended.{Mended, has_lost, is_repaired}
use Rattle.file_restorer.specs.Mending.{block_start}
use Rattle.repair_scope.specs.Plan.{FixPlan, cell_at}
use Rattle.file_restorer.specs.State.{AnyCall, place_in, record_path}
use Rattle.snap_fix.specs.Underway.{WritesOneOf}

-- ---- a stop

-- A stop within a fix: its plan, its starts and its stripes; and of one column which stamps the folder keeps, the files that it held
-- before, and those that the stop left.
pub record FixStop : Type 0 where
  pub plan : FixPlan
  pub starts : StartsValue
  pub stripes : List Mended
  pub d : ℕ
  pub keeps : Stamp → Bool
  pub first : Tree
  pub left : Tree

-- the records of the column, and the path of one
abbrev pub records_of : FixStop → List Record
records_of stop = records_in stop.plan.table stop.d

abbrev pub path_at : FixStop → ℕ → List ℕ
path_at stop i = record_path (records_of stop) i

-- the places of a column's records are those where their files stand
abbrev pub StandInPlace : FixPlan → StartsValue → ℕ → Tree → Type 0
StandInPlace plan starts d first = (i : ℕ) → i < length (records_in plan.table d)
    → (start_in (starts_at starts.columns d) i).place ≡ place_in first (record_path (records_in plan.table d) i)

-- a call of a run that fixes: the folder is listed, or a call of a fix once it is
abbrev pub IsRunCall : FixStop → FolderCall → Type 0
IsRunCall stop call = (call ≡ ListFiles) ⊎ IsFixCall stop.plan stop.starts stop.d stop.stripes call

-- these files may be left by a stop within some calls such as a run makes
pub record IsStop (stop : FixStop) : Type 0 where
  pub valid : IsValid stop.plan.table
  pub column : stop.d < length stop.plan.table.columns
  pub places : StandInPlace stop.plan stop.starts stop.d stop.first
  pub calls : List FolderDone
  pub each : All (AnyCall (IsRunCall stop)) calls
  pub left : MayBeLeft stop.keeps calls stop.first stop.left

-- ---- what it leaves of a file

-- the file in the place of a record: that under PATH, else that under PATH`.unrecoverable`
abbrev pub file_or : Option File → Option File → Option File
file_or None other = other
file_or (Some file) other = Some file

abbrev pub file_placed : Tree → List ℕ → Option File
file_placed tree path = file_or (file_of tree (path_of path false)) (file_of tree (path_of path true))

-- a byte of the file of a path lies in a block that the stripes write to it: one that is damaged and known
pub record IsInWritten (stop : FixStop) (path : List ℕ) (byte : ℕ) : Type 0 where
  pub at : ℕ
  pub bytes : List ℕ
  pub writes : WritesOneOf stop.plan stop.d stop.stripes path at bytes
  pub from : at ≤ byte
  pub before : byte < at + length bytes

-- a byte of the file of a record lies in no such block and, if the record has no lost block, before its recorded end
pub record IsSpared (stop : FixStop) (i byte : ℕ) : Type 0 where
  pub unwritten : ¬ (IsInWritten stop (path_at stop i) byte)
  pub within : has_lost stop.plan stop.stripes stop.d i ≡ false → byte < (record_at stop.plan.table.columns stop.d i).meta.size

-- in the place of a record stands a file with each spared byte of the one that stood there
pub record StandsSpared (stop : FixStop) (i : ℕ) (before : File) : Type 0 where
  pub after : File
  pub there : file_placed stop.left (path_at stop i) ≡ Some after
  pub bytes : (byte : ℕ) → byte < length before.bytes → IsSpared stop i byte
      → (byte < length after.bytes) × (slice_index after.bytes byte ≡ slice_index before.bytes byte)

-- ---- what it leaves of a cell

-- A cell is written in none of the stripes of a stop: where it is looked at, it is not selected or not damaged, its block is not known, or
-- its file is blocked. These stripes have their facts.
pub record IsCellSpared (stop : FixStop) (cell : Cell) : Type 0 where
  pub are : All (AreFacts stop.plan) (facts_of stop.stripes)
  pub none : (mended : Mended) → Contains stop.stripes mended → cell_at stop.plan mended.facts.stripe stop.d ≡ Some cell
      → is_repaired stop.plan mended.facts stop.d ≡ false

-- the real length of its block
abbrev pub cell_length : FixStop → Cell → ℕ
cell_length stop cell = block_length stop.plan.table.shape.block_size (record_at stop.plan.table.columns stop.d cell.rec).meta.size cell.index

-- in the place of its record stands a file with each byte of its block that the file there had
pub record StandsInCell (stop : FixStop) (cell : Cell) (before : File) : Type 0 where
  pub after : File
  pub there : file_placed stop.left (path_at stop cell.rec) ≡ Some after
  pub bytes : (p b : ℕ) → p < cell_length stop cell → HasByte before.bytes (block_start stop.plan.table cell + p) b
      → HasByte after.bytes (block_start stop.plan.table cell + p) b

-- ---- what it leaves alone

-- a name of no record that is selected and isn't blocked
abbrev pub IsNoneOf : FixStop → List ℕ → Type 0
IsNoneOf stop name = (i : ℕ) (lost : Bool) → i < length (records_of stop) → is_finished stop.plan stop.d i ≡ true → name ≢ path_of (path_at stop i) lost
