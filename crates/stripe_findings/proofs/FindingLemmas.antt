-- What is found: of one cell, of the first cells of a stripe, and nothing exactly where a stripe is verified.
use Rattle.std.proofs.Common.{◌≡◌, ℕ, ◌+◌, ◌&&◌, Bool, true, false, eqb, List, [], ◌∷◌, ◌++◌, length, get_or, Option, None, Some, refl, sym, ap, ap₂, ◌∙◌}
use Rattle.std.specs.Prelude.{is_some, if◌then◌else◌}
use Rattle.std.specs.Option.{option_map}
use Rattle.std.specs.List.{range_with_len, flat_map, list_all}
use Rattle.std.proofs.Math.Dec.{eqb-suc-zero}
use Rattle.std.proofs.lemmas.Grind.{flat_map-append}
use Rattle.std.proofs.lemmas.List.{append-nil}
use Rattle.block_hash.specs.declared.Digest16.{Digest16}
use Rattle.file_table.specs.Cells.{CellView, cell_in, cell_seen}
use Rattle.file_table.specs.Table.{Column, TableValue, column_at}
use Rattle.file_table.specs.declared.block.Cell.{Cell}
use Rattle.snap_report.specs.declared.events.Event.{Event}
use Rattle.stripe_reader.specs.SlotValue.{SlotValue}
use Rattle.stripe_reader.specs.WindowValue.{WindowValue, slot_at}
use Rattle.stripe_reader.specs.declared.slot.CellRead.{CellRead}
use Rattle.stripe_findings.specs.Findings.{silent_event, wrong_event, block_events, cell_events, events_at, stripe_events, events_of}
use Rattle.stripe_findings.specs.Reading.{StripeReading, slot_of, reading_at, is_unread, is_seen, is_recorded, agrees, is_right, is_right_in, is_verified}
use Rattle.stripe_findings.proofs.SlotLemmas.{range_more, slot_of-reading_at, readings_to, readings_more}

-- ---- one cell

-- what is found in the cell of a column at a stripe of a window, by what the window keeps there
pub events_here : (table : TableValue) (stripes : List ℕ) (window : WindowValue) (i d : ℕ) (cell : Cell) (read : CellRead) (digest : Option Digest16) (found : List Event)
    → cell_in (column_at table.columns d) (get_or stripes i 0) ≡ Some cell → read ≡ (slot_at window i d).cell → digest ≡ (slot_at window i d).digest
    → found ≡ block_events (get_or stripes i 0) d cell (cell_seen (column_at table.columns d) cell) (record { cell = read; digest = digest; block = [] })
    → events_at table (reading_at stripes window i) d ≡ found
events_here table stripes window i d cell read digest found cell_is read_is digest_is found_is =
    let stripe : ℕ = get_or stripes i 0 in
    let column : Column = column_at table.columns d in
    ap (λ (it : Option Cell). cell_events stripe d column it (slot_of d (reading_at stripes window i))) cell_is
    ∙ ap (λ (slot : SlotValue). block_events stripe d cell (cell_seen column cell) slot) (slot_of-reading_at stripes window i d)
    ∙ ap₂ (λ (r : CellRead) (g : Option Digest16). block_events stripe d cell (cell_seen column cell) (record { cell = r; digest = g; block = [] })) (sym read_is) (sym digest_is)
    ∙ sym found_is

both_left : (a b : Bool) → (a && b) ≡ true → a ≡ true
both_left true b is = refl
both_left false b is = is

-- something is found in a block that is not right
pick : (unread recorded : Bool) (hash came : Option Digest16) (stripe d : ℕ) (cell : Cell) (io changed : Event) → (recorded ≡ true → is_some came ≡ true)
    → (recorded && agrees hash came) ≡ false
    → eqb (length (if unread then io ∷ [] else if recorded then silent_event stripe d cell hash came else changed ∷ [])) 0 ≡ false
pick true recorded hash came stripe d cell io changed whole wrong = refl
pick false false hash came stripe d cell io changed whole wrong = refl
pick false true None came stripe d cell io changed whole wrong = absurd cc
pick false true (Some hash) None stripe d cell io changed whole wrong = let none : false ≡ true = whole refl in absurd cc
pick false true (Some hash) (Some came) stripe d cell io changed whole wrong = refl

block_right : (stripe d : ℕ) (cell : Cell) (seen : CellView) (slot : SlotValue) → is_right (Some seen) slot ≡ eqb (length (block_events stripe d cell seen slot)) 0
block_right stripe d cell seen slot = by_case (is_right (Some seen) slot) refl
  where
    by_case : (right : Bool) → is_right (Some seen) slot ≡ right → right ≡ eqb (length (if right then [] else wrong_event stripe d cell seen slot)) 0
    by_case true is = refl
    by_case false is = sym (pick (is_unread slot.cell.found) (is_recorded seen.meta slot) seen.hash slot.digest stripe d cell _ _
        (both_left (is_some slot.digest) (is_seen seen.meta slot.cell.seen)) is)

cell_right : (stripe d : ℕ) (column : Column) (found : Option Cell) (slot : SlotValue)
    → is_right (option_map (cell_seen column) found) slot ≡ eqb (length (cell_events stripe d column found slot)) 0
cell_right stripe d column None slot = refl
cell_right stripe d column (Some cell) slot = block_right stripe d cell (cell_seen column cell) slot

pub right_where_nothing : (table : TableValue) (reading : StripeReading) (d : ℕ) → is_right_in table reading d ≡ eqb (length (events_at table reading d)) 0
right_where_nothing table reading d =
    let column : Column = column_at table.columns d in
    cell_right reading.stripe d column (cell_in column reading.stripe) (slot_of d reading)

-- ---- a stripe

none_of_both : (one other : List Event) → (eqb (length one) 0 && eqb (length other) 0) ≡ eqb (length (one ++ other)) 0
none_of_both [] other = refl
none_of_both (event ∷ one) other =
    ap (λ (b : Bool). b && eqb (length other) 0) (eqb-suc-zero (length one)) ∙ sym (eqb-suc-zero (length (one ++ other)))

all_right : (table : TableValue) (reading : StripeReading) (ds : List ℕ) → list_all (is_right_in table reading) ds ≡ eqb (length (flat_map (events_at table reading) ds)) 0
all_right table reading [] = refl
all_right table reading (d ∷ ds) =
    ap₂ (λ (here rest : Bool). here && rest) (right_where_nothing table reading d) (all_right table reading ds)
    ∙ none_of_both (events_at table reading d) (flat_map (events_at table reading) ds)

-- a stripe is verified exactly where nothing is found in it
pub verified_where_nothing : (table : TableValue) (reading : StripeReading) → is_verified table reading ≡ eqb (length (stripe_events table reading)) 0
verified_where_nothing table reading = all_right table reading (range_with_len 0 (length table.columns))

-- in the first columns, and one more
abbrev pub events_to : TableValue → StripeReading → ℕ → List Event
events_to table reading d = flat_map (events_at table reading) (range_with_len 0 d)

pub events_to-more : (table : TableValue) (reading : StripeReading) (d : ℕ) → events_to table reading (d + 1) ≡ events_to table reading d ++ events_at table reading d
events_to-more table reading d =
    ap (λ (ds : List ℕ). flat_map (events_at table reading) ds) (range_more d)
    ∙ flat_map-append (events_at table reading) (range_with_len 0 d) (d ∷ [])
    ∙ ap (λ (events : List Event). events_to table reading d ++ events) (append-nil (events_at table reading d))

-- ---- several stripes

pub events_of-append : (table : TableValue) (xs ys : List StripeReading) → events_of table (xs ++ ys) ≡ events_of table xs ++ events_of table ys
events_of-append table xs ys = flat_map-append (stripe_events table) xs ys

pub events_of-more : (table : TableValue) (stripes : List ℕ) (window : WindowValue) (i : ℕ)
    → events_of table (readings_to stripes window (i + 1)) ≡ events_of table (readings_to stripes window i) ++ stripe_events table (reading_at stripes window i)
events_of-more table stripes window i =
    let reading : StripeReading = reading_at stripes window i in
    ap (events_of table) (readings_more stripes window i)
    ∙ events_of-append table (readings_to stripes window i) (reading ∷ [])
    ∙ ap (λ (events : List Event). events_of table (readings_to stripes window i) ++ events) (append-nil (stripe_events table reading))
