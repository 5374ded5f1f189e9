-- What is left to do of a table in which some stripes are closed: its files are the same, and the others are pending as they were.
use Rattle.std.proofs.Common.{◌≡◌, ◌≢◌, inl, inr, ℕ, zero, suc, ◌+◌, ◌<◌, List, [], ◌∷◌, ◌++◌, length, map, take, drop, get_or, set, min, ◌-◌, Bool, true, false, not, if◌then◌else◌, Option, None, Some, refl, sym, ap, ap₂, ◌∙◌, subst, arith}
use Rattle.std.specs.List.{All, filter, range_with_len}
use Rattle.std.proofs.lemmas.Bool.{cases_lt, cases_Bool, not-true}
use Rattle.std.proofs.lemmas.List.{append-nil, get_or-map, get_or-drop, get_or-take, length-map, length-drop, length-take, map-set, set-get_or, set_past, take-append-drop}
use Rattle.std.proofs.lemmas.List.Elements.{filter-append}
use Rattle.std.proofs.lemmas.List.FromFn.{fill_by_all, length-map-range_with_len, get_or-map-range_with_len}
use Rattle.folder_listing.specs.Kept.{ListedFile}
use Rattle.array_scan.specs.Layout.{is_pending, pending_stripes}
use Rattle.array_scan.specs.Own.{HoldsJust, own_files}
use Rattle.block_hash.specs.declared.Digest16.{Digest16}
use Rattle.disk_model.specs.Tree.{Tree}
use Rattle.file_table.specs.Cells.{CellView, StripeView, cell_in, cell_view, stripe_view, with_cell_hashed, column_closed, columns_closed}
use Rattle.file_table.specs.Table.{Record, Column, TableValue, column_at, record_in, info_at, no_column, no_record, record_with_hash}
use Rattle.file_table.specs.declared.block.Cell.{Cell}
use Rattle.stripe_reader.specs.Reading.{Task, given_by, task_at}
use Rattle.stripe_reader.specs.Slot.{kept}
use Rattle.stripe_reader.specs.SlotValue.{SlotValue}
use Rattle.stripe_reader.specs.Starts.{recorded_starts}
use Rattle.stripe_reader.specs.WindowValue.{no_slot}
use Rattle.snap_sync.specs.Calls.{no_reading}
use Rattle.snap_sync.specs.Closing.{closed, closed_by, with_closed}
use Rattle.snap_sync.specs.Part.{tree_at, slot_by, reading_by, verified_stripes}
use Rattle.stripe_findings.specs.Reading.{StripeReading, slot_of, is_right, is_verified, digests_of, stripes_of}
use Rattle.snap_sync.proofs.CellLemmas.{FindsCells, seen_task, task_seen}
use Rattle.snap_sync.proofs.GivenLemmas.{right_in, verified_from}
use Rattle.snap_sync.proofs.ListFacts.{filter-map, filter_none, filter_same, filter_within}
use Rattle.snap_sync.proofs.StillPending.{AreOfPending, are_of_pending, pending_distinct, pending_marked}
use Rattle.snap_sync.proofs.SeenLemmas.{GivesItsHashes, LeavesTheOthers, infos_closed, one_or_none, view_apart, view_closed, view_read}

-- ---- files

own_column : (column : Column) (hash : Digest16) (found : Option Cell) → own_files (with_cell_hashed column hash found).records ≡ own_files column.records
own_column column hash None = refl
own_column column hash (Some cell) =
    let own : Record → ListedFile = λ (file : Record). (file.path, file.meta) in
    let file : Record = record_in column cell.rec in
    map-set own column.records cell.rec (record_with_hash file cell.index hash) ∙ elim (cases_lt cell.rec (length column.records)) [
      | inl within ↦ ap (λ (one : ListedFile). set (map own column.records) cell.rec one) (sym (get_or-map own column.records cell.rec no_record (own no_record) within)) ∙ set-get_or (map own column.records) cell.rec (own no_record)
      | inr past ↦ let long : length (map own column.records) ≡ length column.records = length-map column.records own in set_past (map own column.records) cell.rec (own file) (omega (arith, past, long))
    ]

own_closed : (column : Column) (stripe : ℕ) (hash : Option Digest16) → own_files (column_closed stripe hash column).records ≡ own_files column.records
own_closed column stripe None = refl
own_closed column stripe (Some hash) = own_column column hash (cell_in column stripe)

pub length-columns_closed : (stripe : ℕ) (hashes : List (Option Digest16)) (columns : List Column) → length (columns_closed stripe hashes columns) ≡ length columns
length-columns_closed stripe hashes [] = refl
length-columns_closed stripe [] (column ∷ columns) = refl
length-columns_closed stripe (hash ∷ hashes) (column ∷ columns) = ap (λ (n : ℕ). suc n) (length-columns_closed stripe hashes columns)

own_at : (stripe : ℕ) (hashes : List (Option Digest16)) (columns : List Column) (d : ℕ) → own_files (column_at (columns_closed stripe hashes columns) d).records ≡ own_files (column_at columns d).records
own_at stripe hashes [] d = refl
own_at stripe [] (column ∷ columns) d = refl
own_at stripe (hash ∷ hashes) (column ∷ columns) zero = own_closed column stripe hash
own_at stripe (hash ∷ hashes) (column ∷ columns) (suc d) = own_at stripe hashes columns d

module _ (start : TableValue) (now : ℕ) where
  pub columns_with : (reading : StripeReading) (table : TableValue) (b : Bool) → length (if b then with_closed now reading table else table).columns ≡ length table.columns
  columns_with reading table true = length-columns_closed reading.stripe (digests_of reading) table.columns
  columns_with reading table false = refl

  pub columns_closed_by : (readings : List StripeReading) (table : TableValue) → length (closed_by start now readings table).columns ≡ length table.columns
  columns_closed_by [] table = refl
  columns_closed_by (reading ∷ readings) table = columns_closed_by readings (if is_verified start reading then with_closed now reading table else table) ∙ columns_with reading table (is_verified start reading)

  own_with : (reading : StripeReading) (table : TableValue) (d : ℕ) (b : Bool) → own_files (column_at (if b then with_closed now reading table else table).columns d).records ≡ own_files (column_at table.columns d).records
  own_with reading table d true = own_at reading.stripe (digests_of reading) table.columns d
  own_with reading table d false = refl

  own_closed_by : (readings : List StripeReading) (table : TableValue) (d : ℕ) → own_files (column_at (closed_by start now readings table).columns d).records ≡ own_files (column_at table.columns d).records
  own_closed_by [] table d = refl
  own_closed_by (reading ∷ readings) table d = own_closed_by readings (if is_verified start reading then with_closed now reading table else table) d ∙ own_with reading table d (is_verified start reading)

  -- a table in which stripes are closed is of the same files
  pub same_files : (readings : List StripeReading) (table : TableValue) (kept_of : List (List ListedFile)) → HoldsJust table kept_of → HoldsJust (closed_by start now readings table) kept_of
  same_files readings table kept_of holds = record {
    count = holds.count ∙ sym (columns_closed_by readings table);
    each = λ d below. holds.each d (omega (arith, below, columns_closed_by readings table)) ∙ sym (own_closed_by readings table d);
  }

-- ---- what is seen the same is read the same

module _ (finds : FindsCells) (one other : TableValue) (shape : one.shape ≡ other.shape) (columns : length one.columns ≡ length other.columns) (stripe : ℕ) (seen : stripe_view one stripe ≡ stripe_view other stripe) where
  cell_same : (d : ℕ) → d < length one.columns → cell_view (column_at one.columns d) stripe ≡ cell_view (column_at other.columns d) stripe
  cell_same d below =
      sym (get_or-map (λ (column : Column). cell_view column stripe) one.columns d no_column None below)
      ∙ ap (λ (it : StripeView). get_or it.cells d None) seen
      ∙ get_or-map (λ (column : Column). cell_view column stripe) other.columns d no_column None (omega (arith, below, columns))

  task_same : (d : ℕ) → d < length one.columns → task_at one (recorded_starts one) d stripe ≡ task_at other (recorded_starts other) d stripe
  task_same d below =
      task_seen finds one d stripe
      ∙ ap₂ (λ (size : ℕ) (cell : Option CellView). seen_task size cell) (ap (λ s. s.block_size) shape) (cell_same d below)
      ∙ sym (task_seen finds other d stripe)

  slot_same : (trees : List Tree) (d : ℕ) → d < length one.columns → slot_by one trees stripe d ≡ slot_by other trees stripe d
  slot_same trees d below = ap₂ (λ s (task : Task). kept s (given_by (tree_at trees d) task)) shape (task_same d below)

  -- by trees
  pub reading_same : (trees : List Tree) → reading_by one trees stripe ≡ reading_by other trees stripe
  reading_same trees =
      let n : ℕ = length one.columns in
      let slots : map (slot_by one trees stripe) (range_with_len 0 n) ≡ map (slot_by other trees stripe) (range_with_len 0 n) =
      fill_by_all (slot_by other trees stripe) (map (slot_by one trees stripe) (range_with_len 0 n)) n no_slot (length-map-range_with_len (slot_by one trees stripe) 0 n)
      (λ d below. get_or-map-range_with_len (slot_by one trees stripe) 0 n d d no_slot below (zero_more d) ∙ slot_same trees d below) in
      ap (λ (xs : List SlotValue). let r : StripeReading = record { stripe = stripe; slots = xs } in r)
      (slots ∙ ap (λ (k : ℕ). map (slot_by other trees stripe) (range_with_len 0 k)) columns)
    where
      zero_more : (m : ℕ) → 0 + m ≡ m
      zero_more m = omega arith

  -- and what was read verifies the same
  pub verified_same : (reading : StripeReading) → reading.stripe ≡ stripe → is_verified other reading ≡ true → is_verified one reading ≡ true
  verified_same reading is verified = verified_from one reading (λ d below.
      let same : cell_view (column_at one.columns d) reading.stripe ≡ cell_view (column_at other.columns d) reading.stripe =
      subst (λ (s : ℕ). cell_view (column_at one.columns d) s ≡ cell_view (column_at other.columns d) s) (sym is) (cell_same d below) in
      subst (λ (cell : Option CellView). is_right cell (slot_of d reading) ≡ true) (sym same) (right_in other reading verified d (omega (arith, below, columns))))

-- ---- which are pending

module _ (leaves : LeavesTheOthers) (gives : GivesItsHashes) (start : TableValue) (now : ℕ) (readings : List StripeReading) (count : ℕ) (stripes : stripes_of readings ≡ take count (pending_stripes start.infos)) where
  abbrev table : TableValue
  table = closed now start readings

  abbrev pending : List ℕ
  pending = pending_stripes start.infos

  abbrev pub is_left : ℕ → Bool
  is_left stripe = is_pending (info_at table.infos stripe).mark

  of : AreOfPending start readings
  of = are_of_pending start readings count stripes

  left_apart : (stripe : ℕ) → All (λ (reading : StripeReading). reading.stripe ≢ stripe) readings → is_left stripe ≡ is_pending (info_at start.infos stripe).mark
  left_apart stripe apart = ap (λ (seen : StripeView). is_pending seen.info.mark) (view_apart leaves start now readings start stripe apart)

  left_read : (i : ℕ) (d : StripeReading) → i < length readings → is_left (get_or readings i d).stripe ≡ not (is_verified start (get_or readings i d))
  left_read i d inside =
      let reading : StripeReading = get_or readings i d in
      ap (λ (seen : StripeView). is_pending seen.info.mark) (view_read leaves start now gives readings start i d of.distinct inside (of.below i d inside))
      ∙ elim (cases_Bool (is_verified start reading)) [
        | inl verified ↦
            ap (λ (b : Bool). is_pending (if b then view_closed now reading (stripe_view start reading.stripe) else stripe_view start reading.stripe).info.mark) verified
            ∙ sym (ap (λ (b : Bool). not b) verified)
        | inr other ↦
            ap (λ (b : Bool). is_pending (if b then view_closed now reading (stripe_view start reading.stripe) else stripe_view start reading.stripe).info.mark) other
            ∙ of.pending i d inside ∙ sym (ap (λ (b : Bool). not b) other)
      ]

  -- a stripe that is pending was so, and is seen as it was
  pub left_was : (stripe : ℕ) → is_left stripe ≡ true → (is_pending (info_at start.infos stripe).mark ≡ true) × (stripe_view table stripe ≡ stripe_view start stripe)
  left_was stripe left = elim (one_or_none readings stripe) [
    | inr none ↦ (sym (left_apart stripe none) ∙ left, view_apart leaves start now readings start stripe none)
    | inl one ↦
        let reading : StripeReading = get_or readings one.i no_reading in
        let not_verified : not (is_verified start reading) ≡ true = sym (left_read one.i no_reading one.within) ∙ subst (λ (s : ℕ). is_left s ≡ true) (sym one.is) left in
        let other : is_verified start reading ≡ false = not-true (is_verified start reading) not_verified in
        let seen : stripe_view table reading.stripe ≡ stripe_view start reading.stripe =
        view_read leaves start now gives readings start one.i no_reading of.distinct one.within (of.below one.i no_reading one.within)
        ∙ ap (λ (b : Bool). if b then view_closed now reading (stripe_view start reading.stripe) else stripe_view start reading.stripe) other in
        (subst (λ (s : ℕ). is_pending (info_at start.infos s).mark ≡ true) one.is (of.pending one.i no_reading one.within), subst (λ (s : ℕ). stripe_view table s ≡ stripe_view start s) one.is seen)
  ]

  -- the pending stripes are those that are left
  pub pending_left : pending_stripes table.infos ≡ filter is_left pending
  pending_left =
      let long : length table.infos ≡ length start.infos = infos_closed start now readings start in
      ap (λ (n : ℕ). filter is_left (range_with_len 0 n)) long
      ∙ filter_within is_left (λ (stripe : ℕ). is_pending (info_at start.infos stripe).mark) (range_with_len 0 (length start.infos)) (λ stripe left. (left_was stripe left).0)

  behind_left : All (λ (stripe : ℕ). is_left stripe ≡ true) (drop count pending)
  behind_left k d within =
      let long : length (drop count pending) ≡ length pending - count = length-drop count pending in
      let at : get_or (drop count pending) k d ≡ get_or pending (count + k) d = get_or-drop count pending k d in
      let inside : count + k < length pending = omega (arith, within, long) in
      let apart : All (λ (reading : StripeReading). reading.stripe ≢ get_or pending (count + k) d) readings = λ i e below same.
      let many : length (stripes_of readings) ≡ length readings = length-map readings (λ (r : StripeReading). r.stripe) in
      let first : length (stripes_of readings) ≡ length (take count pending) = ap length stripes in
      let shorter : length (take count pending) ≡ min count (length pending) = length-take count pending in
      let i_in : i < count = omega (arith, below, many, first, shorter) in
      let is : (get_or readings i e).stripe ≡ get_or pending i d = sym (get_or-map (λ (r : StripeReading). r.stripe) readings i e d below) ∙ ap (λ (xs : List ℕ). get_or xs i d) stripes ∙ get_or-take count pending i d i_in in
      pending_distinct start.infos i (count + k) d (omega (arith, i_in)) inside (sym is ∙ same) in
      subst (λ (s : ℕ). is_left s ≡ true) (sym at) (left_apart (get_or pending (count + k) d) apart ∙ pending_marked start.infos (count + k) d inside)

  -- and the others are those that are verified
  pub verified_left : verified_stripes start readings ≡ filter (λ (stripe : ℕ). not (is_left stripe)) pending
  verified_left =
      let closed_now : ℕ → Bool = λ (stripe : ℕ). not (is_left stripe) in
      let front : filter closed_now (take count pending) ≡ verified_stripes start readings =
      ap (filter closed_now) (sym stripes)
      ∙ filter-map closed_now (λ (reading : StripeReading). reading.stripe) readings
      ∙ ap stripes_of (filter_same (λ (reading : StripeReading). closed_now reading.stripe) (is_verified start) readings
      (λ i d inside. ap (λ (b : Bool). not b) (left_read i d inside) ∙ not-not (is_verified start (get_or readings i d)))) in
      let back : filter closed_now (drop count pending) ≡ [] = filter_none closed_now (drop count pending) (λ k d within. ap (λ (b : Bool). not b) (behind_left k d within)) in
      sym (ap (filter closed_now) (sym (take-append-drop count pending))
      ∙ filter-append closed_now (take count pending) (drop count pending)
      ∙ ap₂ (λ (xs ys : List ℕ). xs ++ ys) front back
      ∙ append-nil (verified_stripes start readings))
    where
      not-not : (b : Bool) → not (not b) ≡ b
      not-not true = refl
      not-not false = refl
