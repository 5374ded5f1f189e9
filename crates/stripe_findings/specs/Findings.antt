-- What is found in the cells of stripes that were read: each that is not right.
use Rattle.std.specs.Prelude.{ℕ, List, [], ◌∷◌, length, if◌then◌else◌, Option, None, Some}
use Rattle.std.specs.List.{range_with_len, flat_map}
use Rattle.block_hash.specs.declared.Digest16.{Digest16}
use Rattle.file_table.specs.Cells.{CellView, cell_in, cell_seen}
use Rattle.file_table.specs.Table.{Column, TableValue, column_at}
use Rattle.file_table.specs.declared.block.Cell.{Cell}
use Rattle.snap_report.specs.declared.events.Event.{Event}
use Rattle.snap_report.specs.declared.events.Event.TheVariants.{ChangedBlock, Silent, Io}
use Rattle.stripe_reader.specs.SlotValue.{SlotValue}
use Rattle.stripe_findings.specs.Reading.{StripeReading, slot_of, is_unread, is_recorded, is_right}

-- another hash than the recorded one: nothing where there are not both
abbrev pub silent_event : ℕ → ℕ → Cell → Option Digest16 → Option Digest16 → List Event
silent_event stripe d cell (Some recorded) (Some came) = Silent stripe d cell.rec cell.index recorded came ∷ []
silent_event stripe d cell (Some recorded) None = []
silent_event stripe d cell None came = []

-- what is wrong with a block that is not right: its reading failed; or all of it came of a file that is as it was recorded, so that the
-- hash differs; or the file is not as it was recorded, or shorter
abbrev pub wrong_event : ℕ → ℕ → Cell → CellView → SlotValue → List Event
wrong_event stripe d cell seen slot =
    if is_unread slot.cell.found then Io stripe d cell.rec cell.index ∷ []
    else if is_recorded seen.meta slot then silent_event stripe d cell seen.hash slot.digest
    else ChangedBlock stripe d cell.rec cell.index slot.cell.seen slot.cell.got ∷ []

abbrev pub block_events : ℕ → ℕ → Cell → CellView → SlotValue → List Event
block_events stripe d cell seen slot = if is_right (Some seen) slot then [] else wrong_event stripe d cell seen slot

-- of the cell of a column at a stripe
abbrev pub cell_events : ℕ → ℕ → Column → Option Cell → SlotValue → List Event
cell_events stripe d column None slot = []
cell_events stripe d column (Some cell) slot = block_events stripe d cell (cell_seen column cell) slot

abbrev pub events_at : TableValue → StripeReading → ℕ → List Event
events_at table reading d =
    let column = column_at table.columns d in
    cell_events reading.stripe d column (cell_in column reading.stripe) (slot_of d reading)

-- of a stripe, column by column, and of stripes in their order
abbrev pub stripe_events : TableValue → StripeReading → List Event
stripe_events table reading = flat_map (events_at table reading) (range_with_len 0 (length table.columns))

abbrev pub events_of : TableValue → List StripeReading → List Event
events_of table readings = flat_map (stripe_events table) readings
