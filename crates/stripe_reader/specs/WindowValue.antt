-- What a window has.
use Rattle.std.specs.Prelude.{◌≡◌, ℕ, ◌*◌, ◌/◌, ◌≤◌, min, max, List, [], length, All, Option, None, slice_index_or, slice_set}
use Rattle.file_table.specs.Table.{TableValue}
use Rattle.file_table.specs.declared.block.Cell.{Cell}
use Rattle.stripe_reader.specs.declared.slot.Found.TheVariants as found
use Rattle.stripe_reader.specs.declared.window.TheConstants.{COLUMN_BYTES, WINDOW_BYTES, WINDOW_STRIPES}
use Rattle.stripe_reader.specs.Slot.{slot_given, slot_without}
use Rattle.stripe_reader.specs.SlotValue.{SlotValue}

-- how many stripes it has room for, the size of its blocks, a lane of slots for each column, for each column the cells of the
-- table that were looked up, and how many stripes were read last
pub record WindowValue : Type 0 where
  pub room : ℕ
  pub block_size : ℕ
  pub lanes : List (List SlotValue)
  pub cells : List (List (Option Cell))
  pub count : ℕ

-- how many stripes a window of a run has: sixteen or a mebibyte of each column, whichever is more, but no more than fit
-- into 64 MiB, and at least one
abbrev pub stripe_count : ℕ → ℕ → ℕ
stripe_count disks block_size = min (max WINDOW_STRIPES (COLUMN_BYTES / block_size)) (max 1 (WINDOW_BYTES / (block_size * disks)))

-- slots whose blocks have this size
abbrev pub HasBlocks : ℕ → List SlotValue → Type 0
HasBlocks block_size slots = All (λ (slot : SlotValue). length slot.block ≡ block_size) slots

-- a lane: one slot for each stripe that there is room for
pub record IsLane (block_size room : ℕ) (slots : List SlotValue) : Type 0 where
  pub as_many : length slots ≡ room
  pub blocks : HasBlocks block_size slots

-- room for the cells of a column, one for each stripe that there is room for, and for those of so many columns
abbrev pub IsCellLane : ℕ → List (Option Cell) → Type 0
IsCellLane room cells = length cells ≡ room

pub record HasCellRoom (columns room : ℕ) (cells : List (List (Option Cell))) : Type 0 where
  pub as_many : length cells ≡ columns
  pub each : All (IsCellLane room) cells

-- what holds of each window
pub record IsWindow (window : WindowValue) : Type 0 where
  pub within : window.count ≤ window.room
  pub lanes : All (IsLane window.block_size window.room) window.lanes
  pub cells : HasCellRoom (length window.lanes) window.room window.cells

-- it has a lane for each column of a table, and slots for its blocks
pub record Fits (table : TableValue) (window : WindowValue) : Type 0 where
  pub lanes : length window.lanes ≡ length table.columns
  pub block_size : window.block_size ≡ table.shape.block_size

-- what stands for a slot that is not there
abbrev pub no_slot : SlotValue
no_slot = slot_without 0 found.Empty 0 None

-- the slots of a column, and what was read of a column at a stripe, by the number of the stripe among those that were
-- read last
abbrev pub lane_at : WindowValue → ℕ → List SlotValue
lane_at window d = slice_index_or window.lanes d []

abbrev pub slot_at : WindowValue → ℕ → ℕ → SlotValue
slot_at window i d = slice_index_or (lane_at window d) i no_slot

-- the cell of the table that was looked up of a column at the stripe of a number
abbrev pub cell_at : WindowValue → ℕ → ℕ → Option Cell
cell_at window i d = slice_index_or (slice_index_or window.cells d []) i None

-- a window with another slot of a column at the stripe of a number
abbrev pub with_slot : WindowValue → ℕ → ℕ → SlotValue → WindowValue
with_slot window i d slot = record window { lanes = slice_set window.lanes d (slice_set (lane_at window d) i slot) }

-- a window that is given the bytes of a block there
abbrev pub window_given : WindowValue → ℕ → ℕ → List ℕ → WindowValue
window_given window i d bytes = with_slot window i d (slot_given window.block_size bytes (slot_at window i d))
