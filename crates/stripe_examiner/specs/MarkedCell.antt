-- What the mark of one cell says, and what it changes of the window.
use Rattle.std.specs.Prelude.{◌≡◌, ◌≢◌, ◌<◌, ◌≤◌, ◌⊎◌, ℕ, List, [], length, Option, Some}
use Rattle.block_hash.specs.declared.Digest16.{Digest16}
use Rattle.file_table.specs.Cells.{cell_in}
use Rattle.file_table.specs.Table.{TableValue, column_at, record_at}
use Rattle.file_table.specs.declared.block.Cell.{Cell}
use Rattle.file_table.specs.declared.shape.Shape.{Shape}
use Rattle.stripe_reader.specs.Agreeing.{hashed}
use Rattle.stripe_reader.specs.Slot.{slot_given}
use Rattle.stripe_reader.specs.SlotValue.{SlotValue}
use Rattle.stripe_reader.specs.WindowValue.{Fits, WindowValue, slot_at}
use Rattle.stripe_examiner.specs.declared.marking.ColumnMark.{ColumnMark}
use Rattle.stripe_examiner.specs.declared.marking.ColumnMark.TheVariants.{Right, Given, Missing}

-- there is a slot for the cell of a column at a stripe of a window, and a block that is no longer than those of the window, nor than the
-- longest that is hashed
pub record CanPut (i d long : ℕ) (window : WindowValue) : Type 0 where
  pub number : i < window.count
  pub lane : d < length window.lanes
  pub size : long ≤ window.block_size
  pub most : long ≤ 4194304

-- this is the cell of a column at a stripe of a table
pub record IsCellAt (table : TableValue) (stripe d : ℕ) (cell : Cell) : Type 0 where
  pub is : cell_in (column_at table.columns d) stripe ≡ Some cell
  pub rec_within : cell.rec < length (column_at table.columns d).records
  pub block_within : cell.index < length (record_at table.columns d cell.rec).blocks

-- the cell of a column at a stripe of a table, whose window has a place for it, can be marked
pub record CanMarkCell (table : TableValue) (stripe i d : ℕ) (window : WindowValue) : Type 0 where
  pub within : stripe < length table.infos
  pub column : d < length table.columns
  pub fits : Fits table window
  pub number : i < window.count

-- the window has the same room, keeps the same cells of the table, and all slots but that of one column at one stripe are as they were
pub record ChangesSlot (i d : ℕ) (before after : WindowValue) : Type 0 where
  pub room : after.room ≡ before.room
  pub block_size : after.block_size ≡ before.block_size
  pub count : after.count ≡ before.count
  pub lanes : length after.lanes ≡ length before.lanes
  pub cells : after.cells ≡ before.cells
  pub others : (k e : ℕ) → (k ≢ i) ⊎ (e ≢ d) → slot_at after k e ≡ slot_at before k e

-- the bytes have the length and the hash that were asked for
pub record IsAnswer (asked : Option Digest16) (shape : Shape) (long : ℕ) (given : List ℕ)
    : Type 0 where
  pub length_is : length given ≡ long
  pub hash_is : asked ≡ Some (hashed shape given)

-- what the mark of a damaged cell says, by what was asked of the spare: its slot has the block that was given, or
-- no bytes
abbrev pub ShowsAnswer : Option Digest16 → Shape → ℕ → ℕ → SlotValue → ColumnMark → SlotValue → Type 0
ShowsAnswer asked shape block_size long before Right after = ⊥
ShowsAnswer asked shape block_size long before Missing after = after ≡ slot_given block_size [] before
ShowsAnswer asked shape block_size long before Given after =
    (given : List ℕ) × IsAnswer asked shape long given × (after ≡ slot_given block_size given before)
