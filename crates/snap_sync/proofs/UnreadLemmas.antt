-- Each block whose reading failed is told as such.
use Rattle.std.proofs.Common.{◌≡◌, ℕ, ◌+◌, ◌<◌, List, [], ◌∷◌, ◌++◌, length, get_or, Bool, true, false, if◌then◌else◌, Option, None, Some, is_some, refl, sym, ap, ◌∙◌, subst, arith}
use Rattle.std.specs.List.{All, Contains, range_with_len}
use Rattle.std.proofs.lemmas.Bool.{and_left}
use Rattle.std.proofs.lemmas.List.FromFn.{length-range_with_len, get_or-range_with_len}
use Rattle.block_hash.specs.declared.Digest16.{Digest16}
use Rattle.disk_model.specs.Folder.{FolderView}
use Rattle.file_table.specs.Cells.{CellView, cell_in, cell_seen}
use Rattle.file_table.specs.Table.{Column, TableValue, column_at}
use Rattle.file_table.specs.declared.block.Cell.{Cell}
use Rattle.file_table.specs.declared.shape.Shape.{Shape}
use Rattle.snap_report.specs.declared.events.Event.{Event}
use Rattle.snap_report.specs.declared.events.Event.TheVariants.{Io}
use Rattle.stripe_reader.specs.Columns.{folder_at}
use Rattle.stripe_reader.specs.Reading.{CellReading, Whole, is_unread as failed}
use Rattle.stripe_reader.specs.Slot.{kept}
use Rattle.stripe_reader.specs.SlotValue.{SlotValue}
use Rattle.stripe_findings.specs.Findings.{block_events, cell_events, events_at, events_of, stripe_events, wrong_event}
use Rattle.stripe_findings.specs.Reading.{StripeReading, AreRead, agrees, is_recorded, is_right, is_seen, is_unread, slot_of}
use Rattle.snap_sync.proofs.CellLemmas.{IsCellRead, IsStripeRead, stripes_read}
use Rattle.snap_sync.proofs.ListFacts.{All-left, contains_joined}
use Rattle.snap_sync.proofs.ToldLemmas.{unread_kept}

-- a reading that failed has no digest
no_digest : (shape : Shape) (reading : CellReading) → failed reading ≡ true → (kept shape reading).digest ≡ None
no_digest shape (Whole seen bytes) is = cc
no_digest shape other is = refl

-- and a block without one is not right
not_right : (seen : CellView) (slot : SlotValue) → slot.digest ≡ None → is_right (Some seen) slot ≡ false
not_right seen slot none =
    let not_recorded : is_recorded seen.meta slot ≡ false = and_left (is_some slot.digest) (is_seen seen.meta slot.cell.seen) (ap (λ (digest : Option Digest16). is_some digest) none) in
    and_left (is_recorded seen.meta slot) (agrees seen.hash slot.digest) not_recorded

io_told : (stripe d : ℕ) (cell : Cell) (seen : CellView) (slot : SlotValue) → slot.digest ≡ None → is_unread slot.cell.found ≡ true → Contains (block_events stripe d cell seen slot) (Io stripe d cell.rec cell.index)
io_told stripe d cell seen slot none unread =
    let event : Event = Io stripe d cell.rec cell.index in
    let wrong_is : wrong_event stripe d cell seen slot ≡ event ∷ [] = rw unread refl in
    let has : Contains (wrong_event stripe d cell seen slot) event = subst (λ (events : List Event). Contains events event) (sym wrong_is) (0, omega arith, refl) in
    subst (λ (b : Bool). Contains (if b then [] else wrong_event stripe d cell seen slot) event) (sym (not_right seen slot none)) has

module _ (table : TableValue) (readings ahead : List StripeReading) (olds news : List FolderView) (read : AreRead table (readings ++ ahead) olds news) (all : length olds ≡ length table.columns) where
  pub unread_told : (i d : ℕ) (none : StripeReading) (cell : Cell) → i < length readings → d < length table.columns → cell_in (column_at table.columns d) (get_or readings i none).stripe ≡ Some cell
      → is_unread (slot_of d (get_or readings i none)).cell.found ≡ true → Contains (events_of table readings) (Io (get_or readings i none).stripe d cell.rec cell.index)
  unread_told i d none cell i_in d_in is unread =
      let reading : StripeReading = get_or readings i none in
      let each : All (IsStripeRead table olds news) readings = All-left (IsStripeRead table olds news) readings ahead (stripes_read table (readings ++ ahead) olds news read all) in
      let one : IsCellRead table (folder_at olds d) (folder_at news d) d reading.stripe (slot_of d reading) = (each i none i_in).cells d d_in in
      let column : Column = column_at table.columns d in
      let has_failed : failed one.reading ≡ true = sym (unread_kept table.shape one.reading) ∙ subst (λ (slot : SlotValue). is_unread slot.cell.found ≡ true) one.is_kept unread in
      let no_hash : (slot_of d reading).digest ≡ None = ap (λ (slot : SlotValue). slot.digest) one.is_kept ∙ no_digest table.shape one.reading has_failed in
      let event : Event = Io reading.stripe d cell.rec cell.index in
      let here : Contains (events_at table reading d) event =
      subst (λ (found : Option Cell). Contains (cell_events reading.stripe d column found (slot_of d reading)) event) (sym is)
      (io_told reading.stripe d cell (cell_seen column cell) (slot_of d reading) no_hash unread) in
      let long : length (range_with_len 0 (length table.columns)) ≡ length table.columns = length-range_with_len 0 (length table.columns) in
      let at : get_or (range_with_len 0 (length table.columns)) d 0 ≡ d = get_or-range_with_len 0 (length table.columns) d 0 d_in ∙ zero_more d in
      contains_joined (stripe_events table) readings i none event i_in
      (contains_joined (events_at table reading) (range_with_len 0 (length table.columns)) d 0 event (omega (arith, d_in, long)) (subst (λ (k : ℕ). Contains (events_at table reading k) event) (sym at) here))
    where
      zero_more : (n : ℕ) → 0 + n ≡ n
      zero_more n = omega arith
