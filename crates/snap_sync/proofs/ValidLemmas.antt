-- A table in which verified stripes are closed is valid.
use Rattle.std.proofs.Common.{◌≡◌, ◌≢◌, inl, inr, ℕ, zero, suc, ◌^◌, ◌<◌, ◌≤◌, List, [], ◌∷◌, length, take, get_or, set, Bool, true, false, if◌then◌else◌, Option, None, Some, IsSome, is_some, refl, sym, ap, ap₂, ◌∙◌, subst, arith}
use Rattle.std.specs.List.{All, AllPairs}
use Rattle.std.specs.Option.{option_map}
use Rattle.std.proofs.lemmas.Bool.{and_parts, cases_eq, cases_lt}
use Rattle.std.proofs.lemmas.List.{get_or-map, get_or-set_other, get_or_default, get_or_past, length-map, length-set, set-get_or, take_all}
use Rattle.std.proofs.lemmas.List.Elements.{All-set}
use Rattle.block_hash.specs.Hash.{hash}
use Rattle.block_hash.specs.declared.Digest16.{Digest16}
use Rattle.disk_model.specs.Folder.{FolderView}
use Rattle.file_table.specs.Cells.{CellView, StripeView, cell_in, cell_seen, cell_view, stripe_view, with_cell_hashed, column_closed, columns_closed}
use Rattle.file_table.specs.Table.{Record, Column, TableValue, IsAt, block_in, column_at, column_blocks, column_with_hash, no_block, no_column, no_info, no_record, positions_of, record_in}
use Rattle.file_table.specs.Valid.{AreColumns, IsHashedAt, IsInfo, IsSixteenBytes, IsValid, most_blocks}
use Rattle.file_table.specs.declared.block.Block.{Block}
use Rattle.file_table.specs.declared.block.Cell.{Cell}
use Rattle.file_table.specs.declared.info.Info.{Info}
use Rattle.file_table.specs.declared.info.Mark.TheVariants.{Pending}
use Rattle.file_table.specs.declared.shape.Shape.{Shape}
use Rattle.stripe_reader.specs.Columns.{folder_at}
use Rattle.stripe_reader.specs.Reading.{CellReading, Whole}
use Rattle.stripe_reader.specs.Slot.{kept}
use Rattle.stripe_reader.specs.SlotValue.{SlotValue}
use Rattle.stripe_reader.specs.WindowValue.{no_slot}
use Rattle.snap_sync.specs.Closing.{synced_now, with_closed, closed_by}
use Rattle.stripe_findings.specs.Reading.{StripeReading, slot_of, is_seen, is_recorded, is_right, is_verified, agrees, digests_of}
use Rattle.snap_sync.proofs.CellLemmas.{FindsCells, IsCellRead, IsStripeRead}
use Rattle.snap_sync.proofs.DigestLemmas.{digest_sixteen}
use Rattle.snap_sync.proofs.GivenLemmas.{right_in}
use Rattle.snap_sync.proofs.HashedLemmas.{valid-set_hash}
use Rattle.snap_sync.proofs.SeenLemmas.{GivesItsHashes, LeavesTheOthers, apart_with, closed_views, infos_with, table_with, view_in, view_with, views_at}
use Rattle.snap_sync.proofs.LeftLemmas.{columns_with, length-columns_closed}
use Rattle.snap_sync.proofs.ToldLemmas.{All-joined}

-- what file_table says of the only cell at a position
abbrev pub IsOnlyCell : Type 0
IsOnlyCell = (column : Column) (position : ℕ) (cell : Cell) → AllPairs (λ a b. a ≢ b) (positions_of (column_blocks column)) → IsAt column position cell.rec cell.index → cell_in column position ≡ Some cell

-- ---- hashes, column by column

column_at-ahead : (stripe : ℕ) (hashes : List (Option Digest16)) (columns : List Column) (d : ℕ) → column_at (columns_closed stripe (take d hashes) columns) d ≡ column_at columns d
column_at-ahead stripe hashes [] d = refl
column_at-ahead stripe [] (column ∷ columns) zero = refl
column_at-ahead stripe [] (column ∷ columns) (suc d) = refl
column_at-ahead stripe (hash ∷ hashes) (column ∷ columns) zero = refl
column_at-ahead stripe (hash ∷ hashes) (column ∷ columns) (suc d) = column_at-ahead stripe hashes columns d

columns_closed-suc : (stripe : ℕ) (hashes : List (Option Digest16)) (columns : List Column) (d : ℕ) → d < length columns → d < length hashes
    → set (columns_closed stripe (take d hashes) columns) d (column_closed stripe (get_or hashes d None) (column_at columns d)) ≡ columns_closed stripe (take (suc d) hashes) columns
columns_closed-suc stripe hashes [] d within given = absurd (omega arith)
columns_closed-suc stripe [] (column ∷ columns) d within given = absurd (omega arith)
columns_closed-suc stripe (hash ∷ hashes) (column ∷ []) zero within given = refl
columns_closed-suc stripe (hash ∷ hashes) (column ∷ next ∷ columns) zero within given = refl
columns_closed-suc stripe (hash ∷ hashes) (column ∷ columns) (suc d) within given =
    ap (λ (cs : List Column). column_closed stripe hash column ∷ cs) (columns_closed-suc stripe hashes columns d (omega arith) (omega arith))

columns_closed-none : (stripe : ℕ) (columns : List Column) → columns_closed stripe [] columns ≡ columns
columns_closed-none stripe [] = refl
columns_closed-none stripe (column ∷ columns) = refl

-- hashes that are digests
abbrev AreDigests : List (Option Digest16) → Type 0
AreDigests hashes = (d : ℕ) (digest : Digest16) → get_or hashes d None ≡ Some digest → IsSixteenBytes digest.0

module _ (finds : FindsCells) (table : TableValue) (valid : IsValid table) (stripe : ℕ) (hashes : List (Option Digest16)) (digests : AreDigests hashes) where
  abbrev front : ℕ → List Column
  front n = columns_closed stripe (take n hashes) table.columns

  abbrev with_columns : List Column → TableValue
  with_columns columns = record table { columns = columns }

  -- a column that gets a hash, or none
  module _ (n : ℕ) (before : IsValid (with_columns (front n))) (within : n < length table.columns) where
    abbrev column : Column
    column = column_at table.columns n

    same : column_at (front n) n ≡ column
    same = column_at-ahead stripe hashes table.columns n

    unchanged : set (front n) n column ≡ front n
    unchanged = ap (set (front n) n) (sym same) ∙ set-get_or (front n) n no_column

    hashed : (digest : Digest16) → IsSixteenBytes digest.0 → (found : Option Cell) → cell_in column stripe ≡ found → IsValid (with_columns (set (front n) n (with_cell_hashed column digest found)))
    hashed digest sixteen None is = subst (λ (columns : List Column). IsValid (with_columns columns)) (sym unchanged) before
    hashed digest sixteen (Some cell) is =
        let at : IsAt column stripe cell.rec cell.index = finds column stripe cell is in
        let there : IsAt (column_at (front n) n) stripe cell.rec cell.index = subst (λ (c : Column). IsAt c stripe cell.rec cell.index) (sym same) at in
        let long : length (front n) ≡ length table.columns = length-columns_closed stripe (take n hashes) table.columns in
        subst (λ (c : Column). IsValid (with_columns (set (front n) n (column_with_hash c cell.rec cell.index digest)))) same
        (valid-set_hash (front n) n cell.rec cell.index digest (omega (arith, within, long)) there.within there.index_within (with_columns (front n)) refl sixteen before)

    given : (hash : Option Digest16) → get_or hashes n None ≡ hash → IsValid (with_columns (set (front n) n (column_closed stripe hash column)))
    given None is = subst (λ (columns : List Column). IsValid (with_columns columns)) (sym unchanged) before
    given (Some digest) is = hashed digest (digests n digest is) (cell_in column stripe) refl

  valid_front : (n : ℕ) → n ≤ length table.columns → n ≤ length hashes → IsValid (with_columns (front n))
  valid_front zero within enough = subst (λ (columns : List Column). IsValid (with_columns columns)) (sym (columns_closed-none stripe table.columns)) valid
  valid_front (suc n) within enough =
      subst (λ (columns : List Column). IsValid (with_columns columns)) (columns_closed-suc stripe hashes table.columns n (omega arith) (omega arith))
      (given n (valid_front n (omega arith) (omega arith)) (omega arith) (get_or hashes n None) refl)

  pub valid_columns : length hashes ≡ length table.columns → IsValid (with_columns (columns_closed stripe hashes table.columns))
  valid_columns long = subst (λ (given_hashes : List (Option Digest16)). IsValid (with_columns (columns_closed stripe given_hashes table.columns))) (take_all (length hashes) hashes (omega arith))
      (valid_front (length hashes) (omega (arith, long)) (omega arith))

-- ---- what is known of a stripe whose blocks have their hashes

pub valid_marked : (table : TableValue) → IsValid table → (stripe now : ℕ) → stripe < length table.infos → now < 2 ^ 64 → IsHashedAt table.columns stripe
    → IsValid (record table { infos = set table.infos stripe (synced_now now) })
valid_marked table valid stripe now below in_time hashed =
    let long : length (set table.infos stripe (synced_now now)) ≡ length table.infos = length-set table.infos stripe (synced_now now) in
    let fresh : IsInfo (synced_now now) = record { state = λ pending. absurd (not_pending pending); last = in_time } in
    record {
      shape = valid.shape;
      some_column = valid.some_column;
      columns = subst (λ (n : ℕ). AreColumns n table.shape.block_size table.columns) (sym long) valid.columns;
      whole = valid.whole;
      short = subst (λ (n : ℕ). n ≤ most_blocks) (sym long) valid.short;
      length_is = long ∙ valid.length_is;
      infos = record {
        each = All-set IsInfo table.infos stripe (synced_now now) fresh valid.infos.each;
        hashed = λ other within synced. elim (cases_eq other stripe) [
          | inl same ↦ subst (IsHashedAt table.columns) (sym same) hashed
          | inr apart ↦ valid.infos.hashed other (omega (arith, within, long))
              (ap (λ (info : Info). info.mark) (sym (get_or-set_other table.infos stripe other (synced_now now) no_info apart)) ∙ synced)
        ];
      };
    }
  where
    not_pending : (synced_now now).mark ≡ Pending → ⊥
    not_pending is = cc

-- ---- a verified stripe

-- the digest that is kept of a reading
kept_sixteen : (shape : Shape) (reading : CellReading) (digest : Digest16) → (kept shape reading).digest ≡ Some digest → IsSixteenBytes digest.0
kept_sixteen shape (Whole seen bytes) digest is = subst IsSixteenBytes same (digest_sixteen shape.kind shape.seed bytes)
  where
    same : hash shape.kind shape.seed bytes ≡ digest.0
    same = cc
kept_sixteen shape other digest is = cc

abbrev hash_in : Option CellView → Option Digest16
hash_in None = None
hash_in (Some seen) = seen.hash

-- a cell that is right, once it is given its digest
right_hashed : (cell : Option CellView) (slot : SlotValue) (seen : CellView) → is_right cell slot ≡ true → view_with slot.digest cell ≡ Some seen → IsSome seen.hash
right_hashed None slot seen right is = by_digest slot.digest is
  where
    by_digest : (digest : Option Digest16) → view_with digest None ≡ Some seen → IsSome seen.hash
    by_digest None none = cc
    by_digest (Some d) none = cc
right_hashed (Some cell) slot seen right is =
    let recorded = and_parts (is_recorded cell.meta slot) (agrees cell.hash slot.digest) right in
    let came = and_parts (is_some slot.digest) (is_seen cell.meta slot.cell.seen) recorded.0 in
    by_digest slot.digest came.0 is
  where
    by_digest : (digest : Option Digest16) → is_some digest ≡ true → view_with digest (Some cell) ≡ Some seen → IsSome seen.hash
    by_digest None came made = cc
    by_digest (Some d) came made = let hash_is : seen.hash ≡ Some d = ap hash_in (sym made) in subst (λ (h : Option Digest16). IsSome h) (sym hash_is) refl

module _ (finds : FindsCells) (only : IsOnlyCell) (leaves : LeavesTheOthers) (gives : GivesItsHashes) (start : TableValue) (now : ℕ) (in_time : now < 2 ^ 64) (olds news : List FolderView) where
  module _ (reading : StripeReading) (read : IsStripeRead start olds news reading) (verified : is_verified start reading ≡ true) (table : TableValue) (valid : IsValid table)
      (columns : length table.columns ≡ length start.columns) (below : reading.stripe < length table.infos) (seen : stripe_view table reading.stripe ≡ stripe_view start reading.stripe) where
    abbrev stripe : ℕ
    stripe = reading.stripe

    abbrev hashes : List (Option Digest16)
    hashes = digests_of reading

    hashes_long : length hashes ≡ length table.columns
    hashes_long = length-map reading.slots (λ (slot : SlotValue). slot.digest) ∙ read.wide ∙ sym columns

    hash_at : (d : ℕ) → d < length table.columns → get_or hashes d None ≡ (slot_of d reading).digest
    hash_at d within = get_or-map (λ (slot : SlotValue). slot.digest) reading.slots d no_slot None (omega (arith, within, columns, read.wide))

    digests : AreDigests hashes
    digests d digest is = elim (cases_lt d (length table.columns)) [
      | inl within ↦
          let cell : IsCellRead start (folder_at olds d) (folder_at news d) d stripe (slot_of d reading) = read.cells d (omega (arith, within, columns)) in
          kept_sixteen start.shape cell.reading digest (ap (λ (slot : SlotValue). slot.digest) (sym cell.is_kept) ∙ sym (hash_at d within) ∙ is)
      | inr past ↦ absurd (no_some digest (sym (get_or_past hashes d None (omega (arith, past, hashes_long))) ∙ is))
    ]
      where
        no_some : (one : Digest16) → (let none : Option Digest16 = None in none) ≡ Some one → ⊥
        no_some one is_none = cc

    abbrev after : List Column
    after = columns_closed stripe hashes table.columns

    valid_after : IsValid (record table { columns = after })
    valid_after = valid_columns finds table valid stripe hashes digests hashes_long

    after_long : length after ≡ length table.columns
    after_long = length-columns_closed stripe hashes table.columns

    -- what is seen of a cell of it
    view_after : (d : ℕ) → d < length after → cell_view (column_at after d) stripe ≡ view_with (slot_of d reading).digest (cell_view (column_at start.columns d) stripe)
    view_after d within =
        let view = λ (column : Column). cell_view column stripe in
        let there : d < length table.columns = omega (arith, within, after_long) in
        sym (get_or-map view after d no_column None within)
        ∙ ap (λ (views : List (Option CellView)). get_or views d None) (closed_views leaves start now gives stripe hashes table.columns)
        ∙ view_in hashes (views_at stripe table.columns) d
        ∙ ap₂ (λ (hash_given : Option Digest16) (cell : Option CellView). view_with hash_given cell) (hash_at d there)
        (ap (λ (it : StripeView). get_or it.cells d None) seen ∙ get_or-map view start.columns d no_column None (omega (arith, there, columns)))

    -- each block at the stripe has its hash
    block_hashed : (d i x : ℕ) → d < length after → i < length (column_at after d).records → x < length (record_in (column_at after d) i).blocks
        → (block_in (record_in (column_at after d) i) x).position ≡ stripe → IsSome (block_in (record_in (column_at after d) i) x).hash
    block_hashed d i x within i_in x_in at =
        let column : Column = column_at after d in
        let cell : Cell = record { rec = i; index = x } in
        let here : cell_in column stripe ≡ Some cell = only column stripe cell (valid_after.columns.each d no_column within).once (record { within = i_in; index_within = x_in; position_is = at }) in
        right_hashed (cell_view (column_at start.columns d) stripe) (slot_of d reading) (cell_seen column cell)
        (right_in start reading verified d (omega (arith, within, after_long, columns)))
        (sym (view_after d within) ∙ ap (option_map (cell_seen column)) here)

    all_hashed : IsHashedAt after stripe
    all_hashed =
        let P : Block → Type 0 = λ (block : Block). block.position ≡ stripe → IsSome block.hash in
        All-joined P column_blocks after (λ d c within.
        subst (λ (column : Column). All P (column_blocks column)) (sym (get_or_default after d c no_column within))
        (All-joined P (λ (file : Record). file.blocks) (column_at after d).records (λ i r i_in.
        subst (λ (file : Record). All P file.blocks) (sym (get_or_default (column_at after d).records i r no_record i_in))
        (λ x b x_in. subst P (sym (get_or_default (record_in (column_at after d) i).blocks x b no_block x_in)) (block_hashed d i x within i_in x_in)))))

    valid_with : IsValid (with_closed now reading table)
    valid_with = valid_marked (record table { columns = after }) valid_after stripe now below in_time all_hashed

  valid_step : (reading : StripeReading) → IsStripeRead start olds news reading → (table : TableValue) → IsValid table → length table.columns ≡ length start.columns → reading.stripe < length table.infos
      → stripe_view table reading.stripe ≡ stripe_view start reading.stripe → (b : Bool) → is_verified start reading ≡ b → IsValid (if b then with_closed now reading table else table)
  valid_step reading read table valid columns below seen true verified = valid_with reading read verified table valid columns below seen
  valid_step reading read table valid columns below seen false verified = valid

  -- stripes are closed one after another
  pub valid_closed : (readings : List StripeReading) (table : TableValue) → IsValid table → length table.columns ≡ length start.columns → AllPairs (λ (a b : StripeReading). a.stripe ≢ b.stripe) readings
      → All (λ (reading : StripeReading). reading.stripe < length table.infos) readings → All (λ (reading : StripeReading). stripe_view table reading.stripe ≡ stripe_view start reading.stripe) readings
      → All (IsStripeRead start olds news) readings → IsValid (closed_by start now readings table)
  valid_closed [] table valid columns distinct below seen read = valid
  valid_closed (reading ∷ readings) table valid columns distinct below seen read =
      let next : TableValue = table_with start now reading table in
      let long : length next.infos ≡ length table.infos = infos_with start now reading table (is_verified start reading) in
      valid_closed readings next
      (valid_step reading (read 0 reading (omega arith)) table valid columns (below 0 reading (omega arith)) (seen 0 reading (omega arith)) (is_verified start reading) refl)
      (columns_with start now reading table (is_verified start reading) ∙ columns)
      (λ i j d less within. distinct (suc i) (suc j) d (omega arith) (omega arith))
      (λ k d within. let there : (get_or readings k d).stripe < length table.infos = below (suc k) d (omega arith) in omega (arith, there, long))
      (λ k d within. apart_with leaves start now reading table (get_or readings k d).stripe (λ same. distinct 0 (suc k) d (omega arith) (omega arith) (sym same)) (is_verified start reading) ∙ seen (suc k) d (omega arith))
      (λ k d within. read (suc k) d (omega arith))
