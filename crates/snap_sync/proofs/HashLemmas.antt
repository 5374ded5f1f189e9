-- The cells of a stripe with their hashes, column by column; each of its blocks then has one.
use Rattle.std.proofs.Common.{◌≡◌, ◌≢◌, ℕ, ◌+◌, ◌<◌, ◌≤◌, suc, List, [], ◌∷◌, length, get_or, set, take, true, false, Option, None, Some, refl, sym, ap, ◌∙◌, subst, arith}
use Rattle.std.specs.Prelude.{All, AllPairs, IfSome, IsSome, is_some}
use Rattle.std.specs.Option.{option_map}
use Rattle.std.specs.List.{flat_map}
use Rattle.std.proofs.Math.ListN.{get_or-map}
use Rattle.std.proofs.lemmas.List.{get_or_default, length-map}
use Rattle.std.proofs.lemmas.List.Elements.{All-append}
use Rattle.block_hash.specs.declared.Digest16.{Digest16}
use Rattle.file_table.specs.declared.block.Block.{Block}
use Rattle.file_table.specs.declared.block.Cell.{Cell}
use Rattle.file_table.specs.Cells.{CellView, cell_in, cell_seen, seen_with, column_closed, columns_closed}
use Rattle.file_table.specs.Closing.{HasSameFiles}
use Rattle.file_table.specs.Table.{Record, Column, TableValue, IsAt, column_at, record_in, block_in, column_blocks, positions_of, no_block, no_record, no_column}
use Rattle.file_table.specs.Valid.{IsHashedAt, IsColumn}
use Rattle.file_table.proofs.CellInLemmas.{cell_in-Some, cell_in_only}
use Rattle.file_table.proofs.ClosingLemmas.{same_files-closed, length-columns_closed, column_at-closed, column_at-ahead, columns_closed-next, columns_closed-all}
use Rattle.file_table.proofs.ViewLemmas.{view-hashed}
use Rattle.stripe_reader.specs.SlotValue.{SlotValue}
use Rattle.stripe_reader.specs.WindowValue.{WindowValue, slot_at, no_slot}
use Rattle.snap_sync.specs.Closing.{HasDigests, synced_now, with_closed, with_hashes}
use Rattle.stripe_findings.specs.Reading.{StripeReading, slot_of, digests_of, reading_at}
use Rattle.stripe_findings.proofs.SlotLemmas.{slot_of-reading_at}

-- a column uses each position once
abbrev pub IsOnce : Column → Type 0
IsOnce column = AllPairs (λ a b. a ≢ b) (positions_of (column_blocks column))

-- ---- column by column

-- a table with other columns
abbrev with_columns : TableValue → List Column → TableValue
with_columns table columns = record table { columns = columns }

-- a table whose first columns have their hashes
abbrev pub hashed_to : StripeReading → ℕ → TableValue → TableValue
hashed_to reading d table = record table { columns = columns_closed reading.stripe (take d (digests_of reading)) table.columns }

columns_closed-none : (stripe : ℕ) (columns : List Column) → columns ≡ columns_closed stripe [] columns
columns_closed-none stripe [] = refl
columns_closed-none stripe (column ∷ columns) = refl

pub hashed_none : (table : TableValue) (reading : StripeReading) → table ≡ hashed_to reading 0 table
hashed_none table reading = ap (with_columns table) (columns_closed-none reading.stripe table.columns)

-- what the digest of a column is
pub digest_at : (reading : StripeReading) (d : ℕ) → get_or (digests_of reading) d None ≡ (slot_of d reading).digest
digest_at reading d = get_or-map (λ (slot : SlotValue). slot.digest) reading.slots d no_slot

pub hashed_more : (table mid next : TableValue) (reading : StripeReading) (d : ℕ) (hash : Option Digest16)
    → d < length table.columns → d < length reading.slots → hash ≡ (slot_of d reading).digest → mid ≡ hashed_to reading d table
    → next ≡ record mid { columns = set mid.columns d (column_closed reading.stripe hash (column_at mid.columns d)) } → next ≡ hashed_to reading (d + 1) table
hashed_more table mid next reading d hash within given hash_is mid_is next_is =
    let stripe : ℕ = reading.stripe in
    let digests : List (Option Digest16) = digests_of reading in
    let many : d < length digests = omega (arith, length-map reading.slots (λ (slot : SlotValue). slot.digest)) in
    let same : hash ≡ get_or digests d None = hash_is ∙ sym (digest_at reading d) in
    let given_to : TableValue → Column → Option Digest16 → TableValue =
    λ t c h. with_columns t (set t.columns d (column_closed stripe h c)) in
    let before : TableValue = hashed_to reading d table in
    next_is
    ∙ ap (λ (t : TableValue). given_to t (column_at t.columns d) hash) mid_is
    ∙ ap (λ (c : Column). given_to before c hash) (column_at-ahead stripe digests table.columns d)
    ∙ ap (given_to before (column_at table.columns d)) same
    ∙ ap (with_columns table) (columns_closed-next stripe digests table.columns d within many)

pub hashed_all : (table : TableValue) (reading : StripeReading) (d : ℕ) → length table.columns ≤ d → hashed_to reading d table ≡ with_hashes reading table
hashed_all table reading d all = ap (with_columns table) (columns_closed-all reading.stripe (digests_of reading) table.columns d all)

pub columns_of-hashed_to : (table mid : TableValue) (reading : StripeReading) (d : ℕ) → mid ≡ hashed_to reading d table → length mid.columns ≡ length table.columns
columns_of-hashed_to table mid reading d is = ap (λ (t : TableValue). length t.columns) is ∙ length-columns_closed reading.stripe (take d (digests_of reading)) table.columns

-- the cell of a column that has no hashes yet is the one that it had
pub cell_ahead : (table mid : TableValue) (reading : StripeReading) (d : ℕ) (found : Option Cell) → mid ≡ hashed_to reading d table
    → found ≡ cell_in (column_at table.columns d) reading.stripe → found ≡ cell_in (column_at mid.columns d) reading.stripe
cell_ahead table mid reading d found mid_is is =
    is ∙ sym (ap (λ (c : Column). cell_in c reading.stripe) (ap (λ (t : TableValue). column_at t.columns d) mid_is ∙ column_at-ahead reading.stripe (digests_of reading) table.columns d))

-- a cell that is there is a block of a record
pub cell_record : (column : Column) (position : ℕ) (found : Option Cell) → found ≡ cell_in column position → IfSome found (λ (cell : Cell). cell.rec < length column.records)
cell_record column position None is = tt
cell_record column position (Some cell) is = (cell_in-Some column position cell (sym is)).within

pub cell_block : (column : Column) (position : ℕ) (found : Option Cell) → found ≡ cell_in column position → IfSome found (λ (cell : Cell). cell.index < length (record_in column cell.rec).blocks)
cell_block column position None is = tt
cell_block column position (Some cell) is = (cell_in-Some column position cell (sym is)).index_within

-- the digest that a window gives
pub digest_here : (stripes : List ℕ) (window : WindowValue) (i d : ℕ) (hash : Option Digest16) → hash ≡ (slot_at window i d).digest → hash ≡ (slot_of d (reading_at stripes window i)).digest
digest_here stripes window i d hash is = is ∙ ap (λ (slot : SlotValue). slot.digest) (sym (slot_of-reading_at stripes window i d))

-- ---- each block of the stripe has a hash

All-flat_map : {X A : Type 0} (f : X → List A) (P : A → Type 0) (xs : List X) → ((k : ℕ) (d : X) → k < length xs → All P (f (get_or xs k d))) → All P (flat_map f xs)
All-flat_map f P [] each = λ k d within. absurd (omega arith)
All-flat_map f P (x ∷ xs) each = All-append P (f x) (flat_map f xs) (each 0 x (omega arith)) (All-flat_map f P xs (λ k d within. each (suc k) d (omega arith)))

abbrev IsHashed : ℕ → Block → Type 0
IsHashed stripe block = block.position ≡ stripe → IsSome block.hash

abbrev hash_of : Option CellView → Option Digest16
hash_of None = None
hash_of (Some seen) = seen.hash

-- one block of a column: the same block stood there before, so it is the one that got the hash
module _ (stripe : ℕ) (hash : Digest16) (column : Column) (once : IsOnce column) (i index : ℕ)
    (at : IsAt (column_closed stripe (Some hash) column) stripe i index) where
  abbrev now : Column
  now = column_closed stripe (Some hash) column

  abbrev here : Cell
  here = record { rec = i; index = index }

  same : HasSameFiles column now
  same = same_files-closed column stripe (Some hash)

  blocks_same : length (record_in column i).blocks ≡ length (record_in now i).blocks
  blocks_same =
      sym (length-map (record_in column i).blocks (λ (block : Block). block.position)) ∙ sym (ap length (same.positions i))
      ∙ length-map (record_in now i).blocks (λ (block : Block). block.position)

  position_same : (block_in (record_in column i) index).position ≡ (block_in (record_in now i) index).position
  position_same =
      sym (get_or-map (λ (block : Block). block.position) (record_in column i).blocks index no_block)
      ∙ sym (ap (λ (ps : List ℕ). get_or ps index 0) (same.positions i))
      ∙ get_or-map (λ (block : Block). block.position) (record_in now i).blocks index no_block

  stood : IsAt column stripe i index
  stood = record {
    within = omega (arith, same.count, at.within);
    index_within = omega (arith, blocks_same, at.index_within);
    position_is = position_same ∙ at.position_is;
  }

  found_before : cell_in column stripe ≡ Some here
  found_before = cell_in_only column stripe once i index stood

  found_now : cell_in now stripe ≡ Some here
  found_now = same.cell stripe ∙ found_before

  seen : Some (cell_seen now here) ≡ Some (seen_with hash (cell_seen column here))
  seen =
      sym (ap (λ (it : Option Cell). option_map (cell_seen now) it) found_now)
      ∙ view-hashed column stripe hash
      ∙ ap (λ (it : Option Cell). option_map (seen_with hash) (option_map (cell_seen column) it)) found_before

  pub hashed_here : (block_in (record_in now i) index).hash ≡ Some hash
  hashed_here = ap hash_of seen

-- all blocks of a column
pub hashed_column : (stripe : ℕ) (hash : Option Digest16) (column : Column) → IsOnce column
    → (IsSome (cell_in column stripe) → IsSome hash) → All (IsHashed stripe) (column_blocks (column_closed stripe hash column))
hashed_column stripe hash column once given = All-flat_map (λ (kept : Record). kept.blocks) (IsHashed stripe) (column_closed stripe hash column).records each
  where
    by_hash : (digest : Option Digest16) → (IsSome (cell_in column stripe) → IsSome digest) → (i index : ℕ) → IsAt (column_closed stripe digest column) stripe i index
        → IsSome (block_in (record_in (column_closed stripe digest column) i) index).hash
    by_hash None some i index at = absurd (let no : false ≡ true = some (ap (λ (it : Option Cell). is_some it) (cell_in_only column stripe once i index at)) in cc)
    by_hash (Some digest) some i index at = ap (λ (it : Option Digest16). is_some it) (hashed_here stripe digest column once i index at)

    each : (k : ℕ) (d : Record) → k < length (column_closed stripe hash column).records → All (IsHashed stripe) (get_or (column_closed stripe hash column).records k d).blocks
    each k d within index e inside =
        let kept : get_or (column_closed stripe hash column).records k d ≡ record_in (column_closed stripe hash column) k = get_or_default (column_closed stripe hash column).records k d no_record within in
        let inside_here : index < length (record_in (column_closed stripe hash column) k).blocks = subst (λ (r : Record). index < length r.blocks) kept inside in
        let block : get_or (get_or (column_closed stripe hash column).records k d).blocks index e ≡ block_in (record_in (column_closed stripe hash column) k) index =
        get_or_default (get_or (column_closed stripe hash column).records k d).blocks index e no_block inside ∙ ap (λ (r : Record). block_in r index) kept in
        λ at. subst (λ (b : Block). IsSome b.hash) (sym block)
        (by_hash hash given k index (record { within = within; index_within = inside_here; position_is = sym (ap (λ (b : Block). b.position) block) ∙ at }))

-- all blocks of a table
pub hashed_stripe : (table : TableValue) (reading : StripeReading) → All IsOnce table.columns
    → HasDigests table reading → IsHashedAt (with_hashes reading table).columns reading.stripe
hashed_stripe table reading once given = All-flat_map column_blocks (IsHashed reading.stripe) (columns_closed reading.stripe (digests_of reading) table.columns) each
  where
    each : (d : ℕ) (e : Column) → d < length (columns_closed reading.stripe (digests_of reading) table.columns) → All (IsHashed reading.stripe) (column_blocks (get_or (columns_closed reading.stripe (digests_of reading) table.columns) d e))
    each d e within =
        let inside : d < length table.columns = omega (arith, length-columns_closed reading.stripe (digests_of reading) table.columns, within) in
        let is : get_or (columns_closed reading.stripe (digests_of reading) table.columns) d e ≡ column_closed reading.stripe (get_or (digests_of reading) d None) (column_at table.columns d) =
        get_or_default (columns_closed reading.stripe (digests_of reading) table.columns) d e no_column within ∙ column_at-closed reading.stripe (digests_of reading) table.columns d in
        subst (λ (c : Column). All (IsHashed reading.stripe) (column_blocks c)) (sym is)
        (hashed_column reading.stripe (get_or (digests_of reading) d None) (column_at table.columns d) (once d no_column inside)
        (λ some. subst (λ (h : Option Digest16). IsSome h) (sym (digest_at reading d)) (given d inside some)))

-- the columns of a valid table use each position once
pub positions_once : (length_is : ℕ) (columns : List Column) → All (IsColumn length_is) columns → All IsOnce columns
positions_once length_is columns are = λ d e within. (are d e within).once

-- with its hashes and what is known of its stripe a table is closed
pub closed_as : (now : ℕ) (reading : StripeReading) (table mid next : TableValue) → mid ≡ with_hashes reading table
    → next ≡ record mid { infos = set mid.infos reading.stripe (synced_now now) } → next ≡ with_closed now reading table
closed_as now reading table mid next mid_is next_is =
    next_is ∙ ap (λ (t : TableValue). let it : TableValue = record t { infos = set t.infos reading.stripe (synced_now now) } in it) mid_is
