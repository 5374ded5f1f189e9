-- The table after some stripes were read, and other stripes: what is found in these and which of them are verified is as before.
use Rattle.std.proofs.Common.{◌≡◌, ◌≢◌, ℕ, ◌+◌, suc, Bool, eqb, List, [], ◌∷◌, ◌++◌, length, get_or, Option, None, Some, refl, sym, ap, ap₂, ◌∙◌, arith}
use Rattle.std.specs.Prelude.{All, AllPairs, if◌then◌else◌}
use Rattle.std.specs.Option.{option_map}
use Rattle.std.specs.List.{range_with_len, flat_map}
use Rattle.std.proofs.Math.ListN.{get_or-map}
use Rattle.std.proofs.lemmas.List.{get_or_default, get_or_append_left, get_or-append-add, length-append, length-map}
use Rattle.file_table.specs.declared.block.Cell.{Cell}
use Rattle.file_table.specs.Cells.{CellView, cell_in, cell_view, cell_seen, StripeView, stripe_view}
use Rattle.file_table.specs.Closing.{DiffersInHashesAndInfos}
use Rattle.file_table.specs.Table.{Column, TableValue, column_at, no_column}
use Rattle.parity_writer.specs.Parity.{Rows, no_rows, with_row}
use Rattle.snap_report.specs.declared.events.Event.{Event}
use Rattle.stripe_reader.specs.SlotValue.{SlotValue}
use Rattle.snap_sync.specs.Closing.{with_closed, closed_by, closed, rows_with, rows_of, verified_in}
use Rattle.stripe_findings.specs.Findings.{block_events, cell_events, events_at, stripe_events, events_of}
use Rattle.stripe_findings.specs.Reading.{StripeReading, stripes_of, slot_of, is_verified, row_of}
use Rattle.snap_sync.proofs.CloseLemmas.{closed_by-append}
use Rattle.stripe_findings.proofs.FindingLemmas.{verified_where_nothing}
use Rattle.snap_sync.proofs.LookingLemmas.{counted, counted_is}
use Rattle.snap_sync.proofs.StaysLemmas.{IsNoneOf, differs-closed, seen-closed}

-- ---- no stripe twice

-- two lists share no stripe
abbrev pub AreApart : List StripeReading → List StripeReading → Type 0
AreApart xs ys = All (λ (y : StripeReading). IsNoneOf y.stripe xs) ys

stripe_at : (readings : List StripeReading) (k : ℕ) (d : StripeReading) → get_or (stripes_of readings) k d.stripe ≡ (get_or readings k d).stripe
stripe_at readings k d = get_or-map (λ (reading : StripeReading). reading.stripe) readings k d

-- a list without a stripe twice: its first part shares none with the rest
pub apart-from_distinct : (xs ys : List StripeReading) → AllPairs (λ (a b : ℕ). a ≢ b) (stripes_of (xs ++ ys)) → AreApart xs ys
apart-from_distinct xs ys once = λ k e within j f inside same.
    let here : get_or (stripes_of (xs ++ ys)) j f.stripe ≡ (get_or xs j f).stripe = stripe_at (xs ++ ys) j f ∙ ap (λ (r : StripeReading). r.stripe) (get_or_append_left xs ys f j inside) in
    let there : get_or (stripes_of (xs ++ ys)) (length xs + k) f.stripe ≡ (get_or ys k f).stripe =
    stripe_at (xs ++ ys) (length xs + k) f ∙ ap (λ (r : StripeReading). r.stripe) (get_or-append-add xs ys k f) in
    let other : get_or ys k f ≡ get_or ys k e = get_or_default ys k f e within in
    let all : length (stripes_of (xs ++ ys)) ≡ length xs + length ys = length-map (xs ++ ys) (λ (reading : StripeReading). reading.stripe) ∙ length-append xs ys in
    once j (length xs + k) f.stripe (omega (arith, inside)) (omega (arith, all, within))
    (here ∙ same ∙ sym (ap (λ (r : StripeReading). r.stripe) other) ∙ sym there)

-- ---- a stripe that is seen as before

cell_events-seen : (stripe d : ℕ) (old new : Column) (found : Option Cell) (slot : SlotValue) → option_map (cell_seen new) found ≡ option_map (cell_seen old) found
    → cell_events stripe d new found slot ≡ cell_events stripe d old found slot
cell_events-seen stripe d old new None slot is = refl
cell_events-seen stripe d old new (Some cell) slot is =
    let same : cell_seen new cell ≡ cell_seen old cell = cc in
    ap (λ (seen : CellView). block_events stripe d cell seen slot) same

flat_map-same : {X A : Type 0} (f g : X → List A) → ((x : X) → f x ≡ g x) → (xs : List X) → flat_map f xs ≡ flat_map g xs
flat_map-same f g same [] = refl
flat_map-same f g same (x ∷ xs) = ap₂ (λ (here rest : List _). here ++ rest) (same x) (flat_map-same f g same xs)

module _ (old new : TableValue) (reading : StripeReading) (differs : DiffersInHashesAndInfos old new) (seen : stripe_view new reading.stripe ≡ stripe_view old reading.stripe) where
  abbrev view_of : Column → Option CellView
  view_of column = cell_view column reading.stripe

  view_at : (d : ℕ) → cell_view (column_at new.columns d) reading.stripe ≡ cell_view (column_at old.columns d) reading.stripe
  view_at d =
      sym (get_or-map view_of new.columns d no_column)
      ∙ ap (λ (view : StripeView). get_or view.cells d (view_of no_column)) seen
      ∙ get_or-map view_of old.columns d no_column

  events_at-seen : (d : ℕ) → events_at new reading d ≡ events_at old reading d
  events_at-seen d =
      let was : Column = column_at old.columns d in
      let is : Column = column_at new.columns d in
      let stripe : ℕ = reading.stripe in
      let found : cell_in is stripe ≡ cell_in was stripe = (differs.files d).cell stripe in
      ap (λ (it : Option Cell). cell_events stripe d is it (slot_of d reading)) found
      ∙ cell_events-seen stripe d was is (cell_in was stripe) (slot_of d reading) (sym (ap (option_map (cell_seen is)) found) ∙ view_at d)

  pub stripe_events-seen : stripe_events new reading ≡ stripe_events old reading
  stripe_events-seen =
      ap (λ (n : ℕ). flat_map (events_at new reading) (range_with_len 0 n)) differs.columns
      ∙ flat_map-same (events_at new reading) (events_at old reading) events_at-seen (range_with_len 0 (length old.columns))

-- ---- after some stripes were read

module _ (now : ℕ) (start : TableValue) (xs : List StripeReading) where
  pub stripe_events-closed : (y : StripeReading) → IsNoneOf y.stripe xs → stripe_events (closed now start xs) y ≡ stripe_events start y
  stripe_events-closed y apart = stripe_events-seen start (closed now start xs) y (differs-closed now start xs) (seen-closed now start xs y.stripe apart)

  pub is_verified-closed : (y : StripeReading) → IsNoneOf y.stripe xs → is_verified (closed now start xs) y ≡ is_verified start y
  is_verified-closed y apart =
      verified_where_nothing (closed now start xs) y ∙ ap (λ (events : List Event). eqb (length events) 0) (stripe_events-closed y apart)
      ∙ sym (verified_where_nothing start y)

  -- what is found in other stripes
  pub events_of-closed : (ys : List StripeReading) → AreApart xs ys → events_of (closed now start xs) ys ≡ events_of start ys
  events_of-closed [] apart = refl
  events_of-closed (y ∷ ys) apart =
      ap₂ (λ (here rest : List Event). here ++ rest) (stripe_events-closed y (apart 0 y (omega arith))) (events_of-closed ys (λ k d within. apart (suc k) d (omega arith)))

  -- how many of them are verified
  counted-closed : (ys : List StripeReading) → AreApart xs ys → counted (is_verified (closed now start xs)) ys ≡ counted (is_verified start) ys
  counted-closed [] apart = refl
  counted-closed (y ∷ ys) apart =
      ap₂ (λ (b : Bool) (n : ℕ). if b then 1 + n else n) (is_verified-closed y (apart 0 y (omega arith))) (counted-closed ys (λ k d within. apart (suc k) d (omega arith)))

  pub verified_in-closed : (ys : List StripeReading) → AreApart xs ys → verified_in (closed now start xs) ys ≡ verified_in start ys
  verified_in-closed ys apart = sym (counted_is (is_verified (closed now start xs)) ys) ∙ counted-closed ys apart ∙ counted_is (is_verified start) ys

  -- the rows that they give
  pub rows_with-closed : (ys : List StripeReading) (rows : Rows) → AreApart xs ys → rows_with (closed now start xs) ys rows ≡ rows_with start ys rows
  rows_with-closed [] rows apart = refl
  rows_with-closed (y ∷ ys) rows apart =
      ap (λ (b : Bool). rows_with (closed now start xs) ys (if b then with_row y.stripe (row_of y) rows else rows)) (is_verified-closed y (apart 0 y (omega arith)))
      ∙ rows_with-closed ys (if is_verified start y then with_row y.stripe (row_of y) rows else rows) (λ k d within. apart (suc k) d (omega arith))

  -- the table that they close
  closed_by-closed : (ys : List StripeReading) (table : TableValue) → AreApart xs ys → closed_by (closed now start xs) now ys table ≡ closed_by start now ys table
  closed_by-closed [] table apart = refl
  closed_by-closed (y ∷ ys) table apart =
      ap (λ (b : Bool). closed_by (closed now start xs) now ys (if b then with_closed now y table else table)) (is_verified-closed y (apart 0 y (omega arith)))
      ∙ closed_by-closed ys (if is_verified start y then with_closed now y table else table) (λ k d within. apart (suc k) d (omega arith))

  pub closed-append : (ys : List StripeReading) → AreApart xs ys → closed now start (xs ++ ys) ≡ closed now (closed now start xs) ys
  closed-append ys apart = closed_by-append start now xs ys start ∙ sym (closed_by-closed ys (closed now start xs) apart)

-- ---- some stripes and then others

pub rows_with-append : (start : TableValue) (xs ys : List StripeReading) (rows : Rows) → rows_with start (xs ++ ys) rows ≡ rows_with start ys (rows_with start xs rows)
rows_with-append start [] ys rows = refl
rows_with-append start (x ∷ xs) ys rows = rows_with-append start xs ys (if is_verified start x then with_row x.stripe (row_of x) rows else rows)

pub rows_of-append : (start : TableValue) (xs ys : List StripeReading) → rows_of start (xs ++ ys) ≡ rows_with start ys (rows_of start xs)
rows_of-append start xs ys = rows_with-append start xs ys no_rows
