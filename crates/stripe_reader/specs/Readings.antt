-- The readings that a window keeps, column by column and stripe by stripe.
use Rattle.std.specs.Prelude.{◌≡◌, ℕ, ◌<◌, List, [], length, map, take, get_or, Option, None, Some}
use Rattle.block_hash.specs.Hash.{hash}
use Rattle.block_hash.specs.declared.Digest16.{Digest16}
use Rattle.disk_model.specs.Folder.{FolderView}
use Rattle.file_table.specs.Cells.{CellView}
use Rattle.file_table.specs.Table.{TableValue}
use Rattle.file_table.specs.declared.shape.Shape.{Shape}
use Rattle.stripe_reader.specs.Column.{ReadsColumn, IsReadingOf}
use Rattle.stripe_reader.specs.Columns.{folder_at}
use Rattle.stripe_reader.specs.Reading.{CellReading, NoBlock, Nowhere, Beyond, Unread, Gone, Part, Whole, IsWholeBlock, block_length, task_at, tasks_at}
use Rattle.stripe_reader.specs.Slot.{kept}
use Rattle.stripe_reader.specs.Starts.{StartsValue}
use Rattle.stripe_reader.specs.WindowValue.{WindowValue, lane_at, slot_at}

-- the bytes of a block that came whole, at its real length, else none
abbrev pub bytes_read : CellReading → List ℕ
bytes_read NoBlock = []
bytes_read Nowhere = []
bytes_read Beyond = []
bytes_read (Unread seen) = []
bytes_read (Gone seen) = []
bytes_read (Part seen got) = []
bytes_read (Whole seen bytes) = bytes

-- the hash of these bytes, where the block came whole
abbrev pub digest_read : Shape → CellReading → Option Digest16
digest_read shape NoBlock = None
digest_read shape Nowhere = None
digest_read shape Beyond = None
digest_read shape (Unread seen) = None
digest_read shape (Gone seen) = None
digest_read shape (Part seen got) = None
digest_read shape (Whole seen bytes) = Some (record { 0 = hash shape.kind shape.seed bytes })

-- the column has no block at the stripe, or its block came whole
abbrev pub IsThere : CellReading → Type 0
IsThere NoBlock = Unit {0}
IsThere Nowhere = ⊥
IsThere Beyond = ⊥
IsThere (Unread seen) = ⊥
IsThere (Gone seen) = ⊥
IsThere (Part seen got) = ⊥
IsThere (Whole seen bytes) = Unit {0}

-- A reading by what the table says of its cell: there is no block just where the column has none, and a block that
-- came whole is bytes, as many as its real length.
abbrev pub IsReadingAt : ℕ → Option CellView → CellReading → Type 0
IsReadingAt block_size None reading = reading ≡ NoBlock
IsReadingAt block_size (Some cell) NoBlock = ⊥
IsReadingAt block_size (Some cell) Nowhere = Unit {0}
IsReadingAt block_size (Some cell) Beyond = Unit {0}
IsReadingAt block_size (Some cell) (Unread seen) = Unit {0}
IsReadingAt block_size (Some cell) (Gone seen) = Unit {0}
IsReadingAt block_size (Some cell) (Part seen got) = Unit {0}
IsReadingAt block_size (Some cell) (Whole seen bytes) =
    IsWholeBlock (block_length block_size cell.meta.size cell.index) bytes

-- these are the readings of a column that was read
pub record HasColumn (table : TableValue) (starts : StartsValue) (stripes : List ℕ) (window : WindowValue) (d : ℕ)
    (readings : List CellReading) (old new : FolderView) : Type 0 where
  pub read : ReadsColumn table.shape (tasks_at table starts d stripes) (take (length stripes) (lane_at window d)) old new
  pub are : readings ≡ read.readings

-- The readings that a window keeps: of each column those of its cells, stripe after stripe.
pub record HasReadings (table : TableValue) (starts : StartsValue) (stripes : List ℕ) (window : WindowValue)
    (columns : List (List CellReading)) (olds news : List FolderView) : Type 0 where
  pub as_many : length columns ≡ length olds
  pub each : (d : ℕ) → d < length olds
      → HasColumn table starts stripes window d (get_or columns d []) (folder_at olds d) (folder_at news d)

-- the readings of the stripe of a number, column by column
abbrev pub readings_at : List (List CellReading) → ℕ → List CellReading
readings_at columns i = map (λ (column : List CellReading). get_or column i NoBlock) columns

-- A stripe was read into a window, where it has a number: a reading of the cell of each column, as its slot keeps it.
pub record ReadsStripe (table : TableValue) (starts : StartsValue) (stripe : ℕ) (window : WindowValue) (i : ℕ)
    (readings : List CellReading) (folders : List FolderView) : Type 0 where
  pub as_many : length readings ≡ length folders
  pub are_of : (d : ℕ) → d < length readings
      → IsReadingOf (folder_at folders d) (task_at table starts d stripe) (get_or readings d NoBlock)
  pub are_kept : (d : ℕ) → d < length readings → slot_at window i d ≡ kept table.shape (get_or readings d NoBlock)
