-- No more readings of a folder are told as failed than its count of faults rose by.
use Rattle.std.proofs.Common.{◌≡◌, ℕ, zero, suc, ◌+◌, ◌<◌, ◌≤◌, List, [], ◌∷◌, ◌++◌, length, map, cond, Bool, true, false, Option, None, Some, refl, sym, ap, ap₂, ◌∙◌, subst, arith}
use Rattle.std.specs.Prelude.{◌==◌, bytes_eq, count_by, if◌then◌else◌}
use Rattle.std.specs.List.{flat_map, range_with_len}
use Rattle.std.proofs.lemmas.Bool.Decides.{nat_tests}
use Rattle.std.proofs.lemmas.List.Sums.{sum_by-append, sum_by-cons}
use Rattle.block_hash.specs.declared.Digest16.{Digest16}
use Rattle.cauchy.specs.Matrix.{parity_of as level_of}
use Rattle.disk_model.specs.Cause.{RoseBy}
use Rattle.disk_model.specs.Folder.{FolderView}
use Rattle.file_table.specs.Cells.{CellView, cell_in, cell_seen}
use Rattle.file_table.specs.Table.{Column, TableValue, column_at}
use Rattle.file_table.specs.declared.block.Cell.{Cell}
use Rattle.file_table.specs.declared.shape.Shape.{Shape}
use Rattle.parity_writer.specs.LevelReading.{LevelReading}
use Rattle.parity_writer.specs.Parity.{Row}
use Rattle.snap_report.specs.Answer.{is_io_of}
use Rattle.snap_report.specs.declared.events.Event.{Event}
use Rattle.snap_report.specs.declared.events.Event.TheVariants.{ChangedBlock, Io, Parity}
use Rattle.stripe_findings.specs.Findings.{block_events, cell_events, events_at, silent_event, stripe_events, wrong_event}
use Rattle.stripe_findings.specs.Reading.{AreRead, StripeReading, is_recorded, is_right, is_unread, row_of, slot_of}
use Rattle.stripe_reader.specs.Columns.{folder_at}
use Rattle.stripe_reader.specs.Reading.{CellReading, NoBlock, Nowhere, Beyond, Gone, Part, Whole, is_unread as failed}
use Rattle.stripe_reader.specs.Slot.{kept}
use Rattle.stripe_reader.specs.SlotValue.{SlotValue}
use Rattle.snap_scrub.specs.Findings.{events_of, level_event, level_events, level_events_at, scrub_events}
use Rattle.snap_scrub.specs.Reading.{ScrubReading, cells_of}

-- how many events are of a failed reading of a column
abbrev count : ℕ → List Event → ℕ
count e events = count_by (is_io_of e) events

count-append : (e : ℕ) (xs ys : List Event) → count e (xs ++ ys) ≡ count e xs + count e ys
count-append e xs ys = sum_by-append (λ (event : Event). cond (is_io_of e event) 1 0) xs ys

-- one that failed counts one
abbrev counted : SlotValue → ℕ
counted slot = cond (is_unread slot.cell.found) 1 0

at_most_one : (t : Bool) → cond t 1 0 ≤ 1
at_most_one true = omega arith
at_most_one false = omega arith

-- ---- of a cell: at most one where its reading failed, and only of its own column

silent_none : (e stripe d : ℕ) (cell : Cell) (recorded came : Option Digest16) → count e (silent_event stripe d cell recorded came) ≡ 0
silent_none e stripe d cell (Some recorded) (Some came) = refl
silent_none e stripe d cell (Some recorded) None = refl
silent_none e stripe d cell None came = refl

module _ (stripe : ℕ) (cell : Cell) (seen : CellView) (slot : SlotValue) where
  wrong_other : (e d : ℕ) → (d == e) ≡ false → count e (wrong_event stripe d cell seen slot) ≡ 0
  wrong_other e d apart = by (is_unread slot.cell.found) (is_recorded seen.meta slot)
    where
      by : (unread recorded : Bool) → count e (if unread then Io stripe d cell.rec cell.index ∷ [] else if recorded then silent_event stripe d cell seen.hash slot.digest
          else ChangedBlock stripe d cell.rec cell.index slot.cell.seen slot.cell.got ∷ []) ≡ 0
      by true recorded = sum_by-cons (λ (event : Event). cond (is_io_of e event) 1 0) (Io stripe d cell.rec cell.index) [] ∙ ap (λ (t : Bool). cond t 1 0 + 0) apart
      by false true = silent_none e stripe d cell seen.hash slot.digest
      by false false = refl

  wrong_own : (e : ℕ) → count e (wrong_event stripe e cell seen slot) ≤ counted slot
  wrong_own e = by (is_unread slot.cell.found) (is_recorded seen.meta slot)
    where
      by : (unread recorded : Bool) → count e (if unread then Io stripe e cell.rec cell.index ∷ [] else if recorded then silent_event stripe e cell seen.hash slot.digest
          else ChangedBlock stripe e cell.rec cell.index slot.cell.seen slot.cell.got ∷ []) ≤ cond unread 1 0
      by true recorded = omega (arith, sum_by-cons (λ (event : Event). cond (is_io_of e event) 1 0) (Io stripe e cell.rec cell.index) [], at_most_one (e == e))
      by false true = omega (arith, silent_none e stripe e cell seen.hash slot.digest)
      by false false = let none : count e (ChangedBlock stripe e cell.rec cell.index slot.cell.seen slot.cell.got ∷ []) ≡ 0 = refl in omega (arith, none)

  block_other : (e d : ℕ) → (d == e) ≡ false → count e (block_events stripe d cell seen slot) ≡ 0
  block_other e d apart = by (is_right (Some seen) slot)
    where
      by : (right : Bool) → count e (if right then [] else wrong_event stripe d cell seen slot) ≡ 0
      by true = refl
      by false = wrong_other e d apart

  block_own : (e : ℕ) → count e (block_events stripe e cell seen slot) ≤ counted slot
  block_own e = by (is_right (Some seen) slot)
    where
      by : (right : Bool) → count e (if right then [] else wrong_event stripe e cell seen slot) ≤ counted slot
      by true = let none : count e [] ≡ 0 = refl in omega (arith, none)
      by false = wrong_own e

cell_other : (e d stripe : ℕ) (column : Column) (cell : Option Cell) (slot : SlotValue) → (d == e) ≡ false → count e (cell_events stripe d column cell slot) ≡ 0
cell_other e d stripe column None slot apart = refl
cell_other e d stripe column (Some cell) slot apart = block_other stripe cell (cell_seen column cell) slot e d apart

cell_own : (e stripe : ℕ) (column : Column) (cell : Option Cell) (slot : SlotValue) → count e (cell_events stripe e column cell slot) ≤ counted slot
cell_own e stripe column None slot = let none : count e [] ≡ 0 = refl in omega (arith, none)
cell_own e stripe column (Some cell) slot = block_own stripe cell (cell_seen column cell) slot e

-- ---- of the cells of a stripe

differ : (a b : ℕ) → a < b → (b == a) ≡ false
differ a b less = grind (arith, nat_tests)

same_of : (a b : ℕ) → (a == b) ≡ true → a ≡ b
same_of a b is = grind (arith, nat_tests)

module _ (table : TableValue) (reading : StripeReading) (e : ℕ) where
  here_other : (d : ℕ) → (d == e) ≡ false → count e (events_at table reading d) ≡ 0
  here_other d apart = cell_other e d reading.stripe (column_at table.columns d) (cell_in (column_at table.columns d) reading.stripe) (slot_of d reading) apart

  here_own : count e (events_at table reading e) ≤ counted (slot_of e reading)
  here_own = cell_own e reading.stripe (column_at table.columns e) (cell_in (column_at table.columns e) reading.stripe) (slot_of e reading)

  -- of the columns from one on
  behind_none : (start n : ℕ) → e < start → count e (flat_map (events_at table reading) (range_with_len start n)) ≡ 0
  behind_none start zero behind = refl
  behind_none start (suc n) behind =
      omega (arith, count-append e (events_at table reading start) (flat_map (events_at table reading) (range_with_len (start + 1) n)), here_other start (differ e start behind), behind_none (start + 1) n (omega (arith, behind)))

  columns_most : (start n : ℕ) → count e (flat_map (events_at table reading) (range_with_len start n)) ≤ counted (slot_of e reading)
  columns_most start zero = let none : count e [] ≡ 0 = refl in omega (arith, none)
  columns_most start (suc n) = by (start == e) refl (columns_most (start + 1) n)
    where
      joined : count e (flat_map (events_at table reading) (range_with_len start (suc n))) ≡ count e (events_at table reading start) + count e (flat_map (events_at table reading) (range_with_len (start + 1) n))
      joined = count-append e (events_at table reading start) (flat_map (events_at table reading) (range_with_len (start + 1) n))

      by : (same : Bool) → (start == e) ≡ same → count e (flat_map (events_at table reading) (range_with_len (start + 1) n)) ≤ counted (slot_of e reading)
          → count e (flat_map (events_at table reading) (range_with_len start (suc n))) ≤ counted (slot_of e reading)
      by true is rest =
          let at : start ≡ e = same_of start e is in
          let own : count e (events_at table reading start) ≤ counted (slot_of e reading) = subst (λ (d : ℕ). count e (events_at table reading d) ≤ counted (slot_of e reading)) (sym at) here_own in
          omega (arith, joined, own, behind_none (start + 1) n (omega (arith, at)))
      by false apart rest = omega (arith, joined, here_other start apart, rest)

-- ---- of levels: none

level_none : (e block_size stripe r : ℕ) (row : Row) (reading : LevelReading) → count e (level_event block_size stripe r row reading) ≡ 0
level_none e block_size stripe r row None = refl
level_none e block_size stripe r row (Some bytes) = by (bytes_eq bytes (level_of r block_size row))
  where
    by : (same : Bool) → count e (if same then [] else Parity stripe r ∷ []) ≡ 0
    by true = refl
    by false = refl

levels_none : (table : TableValue) (reading : ScrubReading) (e : ℕ) (rs : List ℕ) → count e (flat_map (level_events_at table reading) rs) ≡ 0
levels_none table reading e [] = refl
levels_none table reading e (r ∷ rs) =
    count-append e (level_events_at table reading r) (flat_map (level_events_at table reading) rs)
    ∙ ap₂ (λ (a b : ℕ). a + b) (level_none e table.shape.block_size reading.cells.stripe r (row_of reading.cells) _) (levels_none table reading e rs)

-- ---- of a stripe, and of all

stripe_most : (table : TableValue) (reading : ScrubReading) (e : ℕ) → count e (scrub_events table reading) ≤ counted (slot_of e reading.cells)
stripe_most table reading e =
    omega (
      arith,
      count-append e (stripe_events table reading.cells) (level_events table reading),
      columns_most table reading.cells e 0 (length table.columns),
      levels_none table reading e (range_with_len 0 (length reading.levels)),
    )

all_most : (table : TableValue) (readings : List ScrubReading) (e : ℕ) → count e (events_of table readings) ≤ count_by (λ (slot : SlotValue). is_unread slot.cell.found) (map (slot_of e) (cells_of readings))
all_most table [] e = omega arith
all_most table (reading ∷ readings) e =
    omega (
      arith,
      count-append e (scrub_events table reading) (events_of table readings),
      stripe_most table reading e,
      all_most table readings e,
      sum_by-cons counted (slot_of e reading.cells) (map (slot_of e) (cells_of readings)),
    )

-- a slot says whether the folder failed
unread_kept : (shape : Shape) (reading : CellReading) → is_unread (kept shape reading).cell.found ≡ failed reading
unread_kept shape NoBlock = refl
unread_kept shape Nowhere = refl
unread_kept shape Beyond = refl
unread_kept shape (Gone seen) = refl
unread_kept shape (Part seen got) = refl
unread_kept shape (Whole seen whole) = refl
unread_kept shape other = refl

kept_count : (shape : Shape) (readings : List CellReading) → count_by (λ (slot : SlotValue). is_unread slot.cell.found) (map (kept shape) readings) ≡ count_by failed readings
kept_count shape [] = refl
kept_count shape (reading ∷ readings) =
    sum_by-cons counted (kept shape reading) (map (kept shape) readings)
    ∙ ap₂ (λ (a b : ℕ). a + b) (ap (λ (t : Bool). cond t 1 0) (unread_kept shape reading)) (kept_count shape readings)
    ∙ sym (sum_by-cons (λ (it : CellReading). cond (failed it) 1 0) reading readings)

pub io_told : (table : TableValue) (readings : List ScrubReading) (olds news : List FolderView) (d : ℕ) → AreRead table (cells_of readings) olds news → d < length olds
    → RoseBy (count_by (is_io_of d) (events_of table readings)) (folder_at olds d).faults (folder_at news d).faults
io_told table readings olds news d read within =
    let column = read.each d within in
    let slots : count_by (λ (slot : SlotValue). is_unread slot.cell.found) (map (slot_of d) (cells_of readings)) ≡ count_by failed column.readings
    = ap (λ (slots : List SlotValue). count_by (λ (slot : SlotValue). is_unread slot.cell.found) slots) column.are_kept ∙ kept_count table.shape column.readings in
    omega (arith, column.unread, slots, all_most table readings d)
