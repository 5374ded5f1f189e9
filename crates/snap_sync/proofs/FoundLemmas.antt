-- What is found in a stripe: nothing just where it is verified.
use Rattle.std.proofs.Common.{◌≡◌, inl, inr, ℕ, suc, List, [], ◌∷◌, ◌++◌, length, get_or, Bool, true, false, ◌&&◌, if◌then◌else◌, Option, None, Some, is_some, refl, sym, ap, ◌∙◌, subst, arith}
use Rattle.std.specs.List.{All, flat_map, list_all, range_with_len}
use Rattle.std.specs.Option.{option_map}
use Rattle.std.proofs.lemmas.Bool.{and_parts, cases_Bool}
use Rattle.block_hash.specs.declared.Digest16.{Digest16}
use Rattle.file_table.specs.Cells.{CellView, cell_in, cell_seen}
use Rattle.file_table.specs.Table.{Column, TableValue, column_at}
use Rattle.file_table.specs.declared.block.Cell.{Cell}
use Rattle.snap_report.specs.declared.events.Event.{Event}
use Rattle.snap_report.specs.declared.events.Event.TheVariants.{ChangedBlock, Silent, Io}
use Rattle.stripe_reader.specs.SlotValue.{SlotValue}
use Rattle.snap_sync.specs.Ended.{IsFindingOf, IsFoundIn}
use Rattle.stripe_findings.specs.Findings.{silent_event, wrong_event, block_events, cell_events, events_at, stripe_events, events_of}
use Rattle.stripe_findings.specs.Reading.{StripeReading, slot_of, is_unread, is_recorded, is_right, is_right_in, is_verified, agrees}
use Rattle.snap_sync.proofs.ListFacts.{contains_left, contains_right, none_joined, all_where_none, contains_joined}

module _ (stripe d : ℕ) where
  -- nothing is found in a cell that is right
  right_cell : (column : Column) (cell : Option Cell) (slot : SlotValue) → is_right (option_map (cell_seen column) cell) slot ≡ true → cell_events stripe d column cell slot ≡ []
  right_cell column None slot right = refl
  right_cell column (Some cell) slot right = ap (λ (b : Bool). if b then [] else wrong_event stripe d cell (cell_seen column cell) slot) right

  found_one : (event : Event) → IsFindingOf stripe event → IsFoundIn (event ∷ []) stripe
  found_one event is = record { event = event; among = (0, omega arith, refl); is_of = is }

  -- a whole block with another hash
  silent : (cell : Cell) (recorded came : Option Digest16) → is_some came ≡ true → agrees recorded came ≡ false → IsFoundIn (silent_event stripe d cell recorded came) stripe
  silent cell None came whole other = cc
  silent cell (Some recorded) None whole other = cc
  silent cell (Some recorded) (Some came) whole other = found_one (Silent stripe d cell.rec cell.index recorded came) refl

  -- something is found in a cell that is not
  wrong_block : (cell : Cell) (seen : CellView) (slot : SlotValue) → is_right (Some seen) slot ≡ false → IsFoundIn (block_events stripe d cell seen slot) stripe
  wrong_block cell seen slot wrong = subst (λ (b : Bool). IsFoundIn (if b then [] else wrong_event stripe d cell seen slot) stripe) (sym wrong) (by_reading (is_unread slot.cell.found) refl)
    where
      by_record : (b : Bool) → is_recorded seen.meta slot ≡ b
          → IsFoundIn (if b then silent_event stripe d cell seen.hash slot.digest else ChangedBlock stripe d cell.rec cell.index slot.cell.seen slot.cell.got ∷ []) stripe
      by_record true is =
          let whole = and_parts _ _ is in
          silent cell seen.hash slot.digest whole.0 (sym (ap (λ (b : Bool). b && agrees seen.hash slot.digest) is) ∙ wrong)
      by_record false is = found_one (ChangedBlock stripe d cell.rec cell.index slot.cell.seen slot.cell.got) refl

      by_reading : (b : Bool) → is_unread slot.cell.found ≡ b → IsFoundIn (wrong_event stripe d cell seen slot) stripe
      by_reading true is = rw is (found_one (Io stripe d cell.rec cell.index) refl)
      by_reading false is = rw is (by_record (is_recorded seen.meta slot) refl)

  wrong_cell : (column : Column) (cell : Option Cell) (slot : SlotValue) → is_right (option_map (cell_seen column) cell) slot ≡ false → IsFoundIn (cell_events stripe d column cell slot) stripe
  wrong_cell column None slot wrong = cc
  wrong_cell column (Some cell) slot wrong = wrong_block cell (cell_seen column cell) slot wrong

module _ (table : TableValue) where
  found_left : (xs ys : List Event) (stripe : ℕ) → IsFoundIn xs stripe → IsFoundIn (xs ++ ys) stripe
  found_left xs ys stripe is = record { event = is.event; among = contains_left xs ys is.event is.among; is_of = is.is_of }

  found_right : (xs ys : List Event) (stripe : ℕ) → IsFoundIn ys stripe → IsFoundIn (xs ++ ys) stripe
  found_right xs ys stripe is = record { event = is.event; among = contains_right xs ys is.event is.among; is_of = is.is_of }

  module _ (reading : StripeReading) where
    none_at : (d : ℕ) → is_right_in table reading d ≡ true → events_at table reading d ≡ []
    none_at d right = let column = column_at table.columns d in right_cell reading.stripe d column (cell_in column reading.stripe) (slot_of d reading) right

    found_at : (d : ℕ) → is_right_in table reading d ≡ false → IsFoundIn (events_at table reading d) reading.stripe
    found_at d wrong = let column = column_at table.columns d in wrong_cell reading.stripe d column (cell_in column reading.stripe) (slot_of d reading) wrong

    not_nothing : (stripe : ℕ) (events : List Event) → events ≡ [] → IsFoundIn events stripe → ⊥
    not_nothing stripe events none is = let long : length events ≡ 0 = ap length none in omega (arith, long, is.among.1)

    right_at : (d : ℕ) → events_at table reading d ≡ [] → is_right_in table reading d ≡ true
    right_at d none = elim (cases_Bool (is_right_in table reading d)) [
      | inl right ↦ right
      | inr wrong ↦ absurd (not_nothing reading.stripe (events_at table reading d) none (found_at d wrong))
    ]

    pub none_where_verified : is_verified table reading ≡ true → stripe_events table reading ≡ []
    none_where_verified = none_joined (is_right_in table reading) (events_at table reading) none_at (range_with_len 0 (length table.columns))

    pub verified_where_none : stripe_events table reading ≡ [] → is_verified table reading ≡ true
    verified_where_none = all_where_none (is_right_in table reading) (events_at table reading) right_at (range_with_len 0 (length table.columns))

    found_among : (ds : List ℕ) → list_all (is_right_in table reading) ds ≡ false → IsFoundIn (flat_map (events_at table reading) ds) reading.stripe
    found_among [] wrong = cc
    found_among (d ∷ ds) wrong = elim (cases_Bool (is_right_in table reading d)) [
      | inl right ↦ found_right (events_at table reading d) (flat_map (events_at table reading) ds) reading.stripe
          (found_among ds (sym (ap (λ (b : Bool). b && list_all (is_right_in table reading) ds) right) ∙ wrong))
      | inr not_right ↦ found_left (events_at table reading d) (flat_map (events_at table reading) ds) reading.stripe (found_at d not_right)
    ]

    -- something is found in a stripe that is not verified
    pub found_where_not : is_verified table reading ≡ false → IsFoundIn (stripe_events table reading) reading.stripe
    found_where_not = found_among (range_with_len 0 (length table.columns))

  -- and it is among all that is found
  pub each_found : (readings : List StripeReading) → All (λ (reading : StripeReading). is_verified table reading ≡ false → IsFoundIn (events_of table readings) reading.stripe) readings
  each_found readings i d within wrong =
      let reading = get_or readings i d in
      let is : IsFoundIn (stripe_events table reading) reading.stripe = found_where_not reading wrong in
      record { event = is.event; among = contains_joined (stripe_events table) readings i d is.event within is.among; is_of = is.is_of }

  -- nothing is found at all just where all are verified
  pub none_of : (readings : List StripeReading) → All (λ (reading : StripeReading). is_verified table reading ≡ true) readings → events_of table readings ≡ []
  none_of [] all = refl
  none_of (reading ∷ readings) all =
      ap (λ (front : List Event). front ++ events_of table readings) (none_where_verified reading (all 0 reading (omega arith)))
      ∙ none_of readings (λ k d within. all (suc k) d (omega arith))

  pub all_of : (readings : List StripeReading) → events_of table readings ≡ [] → All (λ (reading : StripeReading). is_verified table reading ≡ true) readings
  all_of readings none i d within = elim (cases_Bool (is_verified table (get_or readings i d))) [
    | inl right ↦ right
    | inr wrong ↦ absurd (not_nothing (get_or readings i d) (get_or readings i d).stripe (events_of table readings) none (each_found readings i d within wrong))
  ]
