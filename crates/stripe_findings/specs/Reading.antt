-- What was read of stripes, and which of them are verified by it.
use Rattle.std.specs.Prelude.{◌≡◌, ℕ, ◌<◌, ◌&&◌, List, length, take, map, get_or, slice_index_or, Bool, true, false, All, Option, None, Some}
use Rattle.std.specs.List.{range_with_len, list_all}
use Rattle.std.specs.Prelude.{is_some}
use Rattle.block_hash.specs.declared.Digest16.{Digest16}
use Rattle.disk_model.specs.Folder.{FolderView}
use Rattle.disk_model.specs.declared.meta.Meta.{Meta}
use Rattle.file_table.specs.Cells.{CellView, cell_view}
use Rattle.file_table.specs.Table.{TableValue, column_at}
use Rattle.folder_listing.specs.Kept.{same_meta}
use Rattle.parity_writer.specs.Parity.{Row}
use Rattle.parity_writer.specs.WindowRow.{bytes_of}
use Rattle.stripe_reader.specs.Column.{ReadsColumn}
use Rattle.stripe_reader.specs.Columns.{folder_at}
use Rattle.stripe_reader.specs.Reading.{tasks_at}
pub use Rattle.stripe_reader.specs.Agreeing.{matches_digest as agrees}
pub use Rattle.stripe_reader.specs.Slot.{is_unread}
use Rattle.stripe_reader.specs.Slot.{count_unread}
use Rattle.stripe_reader.specs.SlotValue.{SlotValue}
use Rattle.stripe_reader.specs.Starts.{recorded_starts}
use Rattle.stripe_reader.specs.WindowValue.{WindowValue, no_slot}

-- what was kept of the cells of a stripe that was read, column by column
pub record StripeReading : Type 0 where
  pub stripe : ℕ
  pub slots : List SlotValue

abbrev pub slot_of : ℕ → StripeReading → SlotValue
slot_of d reading = slice_index_or reading.slots d no_slot

abbrev pub stripes_of : List StripeReading → List ℕ
stripes_of readings = map (λ (reading : StripeReading). reading.stripe) readings

-- how many cells of a column could not be read
abbrev pub unread_cells : ℕ → List StripeReading → ℕ
unread_cells d readings = count_unread (slot_of d) readings

-- what a window keeps of the stripe of a number, and of all stripes that were read into it
abbrev pub slot_in : ℕ → List SlotValue → SlotValue
slot_in i slots = slice_index_or slots i no_slot

abbrev pub reading_at : List ℕ → WindowValue → ℕ → StripeReading
reading_at stripes window i = record { stripe = get_or stripes i 0; slots = map (slot_in i) window.lanes }

abbrev pub readings_in : List ℕ → WindowValue → List StripeReading
readings_in stripes window = map (reading_at stripes window) (range_with_len 0 (length stripes))

-- These stripes were read of the folders, each column of its own folder, with its files where they were recorded.
pub record AreRead (table : TableValue) (readings : List StripeReading) (olds news : List FolderView) : Type 0 where
  pub folders : length news ≡ length olds
  pub wide : All (λ (reading : StripeReading). length reading.slots ≡ length table.columns) readings
  pub each : (d : ℕ) → d < length olds → ReadsColumn table.shape (tasks_at table (recorded_starts table) d (stripes_of readings))
      (map (slot_of d) readings) (folder_at olds d) (folder_at news d)

-- a file was seen, of this size and stamp
abbrev pub is_seen : Meta → Option Meta → Bool
is_seen meta None = false
is_seen meta (Some seen) = same_meta seen meta

-- the whole block came, so that it has a digest, of a file that is as it was recorded
abbrev pub is_recorded : Meta → SlotValue → Bool
is_recorded meta slot = is_some slot.digest && is_seen meta slot.cell.seen

-- a cell is right: it has no block, or its whole block came of a file that is as it was recorded, with the recorded hash
abbrev pub is_right : Option CellView → SlotValue → Bool
is_right None slot = true
is_right (Some seen) slot = is_recorded seen.meta slot && agrees seen.hash slot.digest

abbrev pub is_right_in : TableValue → StripeReading → ℕ → Bool
is_right_in table reading d = is_right (cell_view (column_at table.columns d) reading.stripe) (slot_of d reading)

-- all cells of a stripe are right: it is verified
abbrev pub is_verified : TableValue → StripeReading → Bool
is_verified table reading = list_all (is_right_in table reading) (range_with_len 0 (length table.columns))

-- the digests of the blocks that came, and the row of their bytes
abbrev pub digests_of : StripeReading → List (Option Digest16)
digests_of reading = map (λ (slot : SlotValue). slot.digest) reading.slots

abbrev pub row_of : StripeReading → Row
row_of reading = map bytes_of reading.slots
