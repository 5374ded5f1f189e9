-- One event is told for each level that could not be read.
use Rattle.std.proofs.Common.{◌≡◌, ℕ, suc, ◌+◌, ◌<◌, List, [], ◌∷◌, ◌++◌, length, get_or, cond, Bool, true, false, Option, None, Some, refl, sym, ap, ap₂, ◌∙◌, arith}
use Rattle.std.specs.Prelude.{bytes_eq, count_by, sum_by, if◌then◌else◌}
use Rattle.std.specs.List.{flat_map, range_with_len}
use Rattle.std.proofs.lemmas.List.Sums.{sum_by-append, sum_by-cons}
use Rattle.block_hash.specs.declared.Digest16.{Digest16}
use Rattle.cauchy.specs.Matrix.{parity_of as level_of}
use Rattle.file_table.specs.Cells.{CellView, cell_in, cell_seen}
use Rattle.file_table.specs.Table.{Column, TableValue, column_at}
use Rattle.file_table.specs.declared.block.Cell.{Cell}
use Rattle.parity_writer.specs.LevelReading.{LevelReading, has_failed}
use Rattle.parity_writer.specs.Parity.{Row}
use Rattle.snap_report.specs.Answer.{is_parity_io}
use Rattle.snap_report.specs.declared.events.Event.{Event}
use Rattle.snap_report.specs.declared.events.Event.TheVariants.{ChangedBlock, Io, Parity}
use Rattle.stripe_findings.specs.Findings.{block_events, cell_events, events_at, silent_event, stripe_events, wrong_event}
use Rattle.stripe_findings.specs.Reading.{StripeReading, is_recorded, is_right, is_unread, row_of, slot_of}
use Rattle.stripe_reader.specs.SlotValue.{SlotValue}
use Rattle.snap_scrub.specs.Findings.{events_of, level_event, level_events, scrub_events}
use Rattle.snap_scrub.specs.Reading.{ScrubReading, unread_levels}

-- how many events are of a level that could not be read
abbrev count : List Event → ℕ
count events = count_by is_parity_io events

count-append : (xs ys : List Event) → count (xs ++ ys) ≡ count xs + count ys
count-append xs ys = sum_by-append (λ (event : Event). cond (is_parity_io event) 1 0) xs ys

-- ---- of a cell: none

silent_none : (stripe d : ℕ) (cell : Cell) (recorded came : Option Digest16) → count (silent_event stripe d cell recorded came) ≡ 0
silent_none stripe d cell (Some recorded) (Some came) = refl
silent_none stripe d cell (Some recorded) None = refl
silent_none stripe d cell None came = refl

wrong_none : (stripe d : ℕ) (cell : Cell) (seen : CellView) (slot : SlotValue) → count (wrong_event stripe d cell seen slot) ≡ 0
wrong_none stripe d cell seen slot = by (is_unread slot.cell.found) (is_recorded seen.meta slot)
  where
    by : (unread recorded : Bool) → count (if unread then Io stripe d cell.rec cell.index ∷ [] else if recorded then silent_event stripe d cell seen.hash slot.digest
        else ChangedBlock stripe d cell.rec cell.index slot.cell.seen slot.cell.got ∷ []) ≡ 0
    by true recorded = refl
    by false true = silent_none stripe d cell seen.hash slot.digest
    by false false = refl

block_none : (stripe d : ℕ) (cell : Cell) (seen : CellView) (slot : SlotValue) → count (block_events stripe d cell seen slot) ≡ 0
block_none stripe d cell seen slot = by (is_right (Some seen) slot)
  where
    by : (right : Bool) → count (if right then [] else wrong_event stripe d cell seen slot) ≡ 0
    by true = refl
    by false = wrong_none stripe d cell seen slot

cell_none : (stripe d : ℕ) (column : Column) (cell : Option Cell) (slot : SlotValue) → count (cell_events stripe d column cell slot) ≡ 0
cell_none stripe d column None slot = refl
cell_none stripe d column (Some cell) slot = block_none stripe d cell (cell_seen column cell) slot

cells_none : (table : TableValue) (reading : StripeReading) (ds : List ℕ) → count (flat_map (events_at table reading) ds) ≡ 0
cells_none table reading [] = refl
cells_none table reading (d ∷ ds) =
    count-append (events_at table reading d) (flat_map (events_at table reading) ds)
    ∙ ap₂ (λ (a b : ℕ). a + b) (cell_none reading.stripe d (column_at table.columns d) (cell_in (column_at table.columns d) reading.stripe) (slot_of d reading)) (cells_none table reading ds)

-- ---- of a level: one where it was not read

level_count : (block_size stripe r : ℕ) (row : Row) (reading : LevelReading) → count (level_event block_size stripe r row reading) ≡ cond (has_failed reading) 1 0
level_count block_size stripe r row None = refl
level_count block_size stripe r row (Some bytes) = by (bytes_eq bytes (level_of r block_size row))
  where
    by : (same : Bool) → count (if same then [] else Parity stripe r ∷ []) ≡ 0
    by true = refl
    by false = refl

-- of the levels from a number on
levels_count : (block_size stripe : ℕ) (row : Row) (readings : List LevelReading) (start : ℕ) (at : ℕ → LevelReading) → ((i : ℕ) → i < length readings → at (start + i) ≡ get_or readings i None)
    → count (flat_map (λ (r : ℕ). level_event block_size stripe r row (at r)) (range_with_len start (length readings))) ≡ count_by has_failed readings
levels_count block_size stripe row [] start at are = refl
levels_count block_size stripe row (reading ∷ readings) start at are =
    let first : at start ≡ reading = ap at (let same : start ≡ start + 0 = omega arith in same) ∙ are 0 (omega arith) in
    let one : count (level_event block_size stripe start row (at start)) ≡ cond (has_failed reading) 1 0
    = level_count block_size stripe start row (at start) ∙ ap (λ (it : LevelReading). cond (has_failed it) 1 0) first in
    let rest = levels_count block_size stripe row readings (start + 1) at
    (λ i within. ap at (let same : (start + 1) + i ≡ start + suc i = omega arith in same) ∙ are (suc i) (omega (arith, within))) in
    count-append (level_event block_size stripe start row (at start)) (flat_map (λ (r : ℕ). level_event block_size stripe r row (at r)) (range_with_len (start + 1) (length readings)))
    ∙ ap₂ (λ (a b : ℕ). a + b) one rest
    ∙ sym (sum_by-cons (λ (it : LevelReading). cond (has_failed it) 1 0) reading readings)

level_events_count : (table : TableValue) (reading : ScrubReading) → count (level_events table reading) ≡ unread_levels reading
level_events_count table reading =
    levels_count table.shape.block_size reading.cells.stripe (row_of reading.cells) reading.levels 0 (λ (r : ℕ). get_or reading.levels r None)
    (λ i within. ap (λ (r : ℕ). get_or reading.levels r None) (let same : 0 + i ≡ i = omega arith in same))

-- ---- of a stripe, and of all

stripe_count : (table : TableValue) (reading : ScrubReading) → count (scrub_events table reading) ≡ unread_levels reading
stripe_count table reading =
    omega (arith, count-append (stripe_events table reading.cells) (level_events table reading), cells_none table reading.cells (range_with_len 0 (length table.columns)), level_events_count table reading)

pub unread_told : (table : TableValue) (readings : List ScrubReading) → count (events_of table readings) ≡ sum_by unread_levels readings
unread_told table [] = refl
unread_told table (reading ∷ readings) =
    count-append (scrub_events table reading) (events_of table readings)
    ∙ ap₂ (λ (a b : ℕ). a + b) (stripe_count table reading) (unread_told table readings)
    ∙ sym (sum_by-cons unread_levels reading readings)
