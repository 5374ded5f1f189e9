-- What the code of the builder reads and tests, in the words of its contracts.
use Rattle.std.proofs.Common.{◌≡◌, ◌≢◌, ◌↔◌, ℕ, ◌+◌, ◌-◌, ◌<◌, ◌≤◌, List, [], ◌∷◌, ◌++◌, length, get_or, set, sym, ap, ◌∙◌, subst, arith, Bool, true, false, not, IsTrue, refl, length-append}
use Rattle.std.specs.List.{All}
use Rattle.std.proofs.lemmas.List.{get_or_default, set-get_or}
use Rattle.disk_model.specs.declared.meta.Meta.{Meta}
use Rattle.file_table.specs.declared.block.Block.{Block}
use Rattle.file_table.specs.Table.{Record, Column, block_count, records_of, column_blocks, blocks_of, blocks_due, no_column, no_record}
use Rattle.file_table.specs.Valid.{IsColumn, IsHashedAt, IsWhole, most_blocks}
use Rattle.file_table.specs.Building.{BuildingValue, Uses, last_column, last_record, with_last_column, with_record, with_block, records_with_block}
use Rattle.file_table.specs.Counted.{IsCounted}
use Rattle.file_table.proofs.ListFacts.{split_last, set_last}
use Rattle.file_table.proofs.BuildingLemmas.{front_columns, split_columns, flat_map-push, blocks_in, blocks_in-push}
use Rattle.file_table.proofs.CountLemmas.{Lacks, front_records, blocks_due-push, blocks_of-records, length-whole}

-- what is read at the number of the last column, and what a write there gives
module _ (columns : List Column) (n : ℕ) (column : Column) (last : n ≡ length columns - 1) (some : 0 < length columns) (is : column ≡ get_or columns n column) where
  pub read_last : column ≡ last_column columns
  read_last =
      let below : length columns - 1 < length columns = omega arith in
      is ∙ ap (λ (k : ℕ). get_or columns k column) last ∙ get_or_default columns (length columns - 1) column no_column below

  pub put_last : (new : Column) → set columns n new ≡ with_last_column columns new
  put_last new = ap (λ (k : ℕ). set columns k new) last ∙ set_last columns new some

  pub put_back : (new : Column) → new ≡ column → set columns n new ≡ columns
  put_back new same = ap (λ (c : Column). set columns n c) (same ∙ is) ∙ set-get_or columns n column

  pub read_column : (the_length : ℕ) → All (IsColumn the_length) columns → IsColumn the_length column
  read_column the_length each = let below : length columns - 1 < length columns = omega arith in subst (IsColumn the_length) (sym read_last) (each (length columns - 1) no_column below)

-- the last column's records and blocks are among all
pub records_in_all : (columns : List Column) → 0 < length columns → length (last_column columns).records ≤ length (records_of columns)
records_in_all columns some =
    let whole : records_of columns ≡ records_of (front_columns columns) ++ (last_column columns).records =
    ap records_of (split_columns columns some) ∙ flat_map-push (λ (c : Column). c.records) (front_columns columns) (last_column columns) in
    omega (arith, ap length whole, length-append (records_of (front_columns columns)) (last_column columns).records)

pub blocks_in_all : (columns : List Column) → 0 < length columns → length (column_blocks (last_column columns)) ≤ length (blocks_of columns)
blocks_in_all columns some =
    let whole : blocks_of columns ≡ blocks_of (front_columns columns) ++ column_blocks (last_column columns) =
    ap blocks_of (split_columns columns some) ∙ flat_map-push column_blocks (front_columns columns) (last_column columns) in
    omega (arith, ap length whole, length-append (blocks_of (front_columns columns)) (column_blocks (last_column columns)))

-- what is there and what the last record lacks is what is due
pub blocks_and_lacking : (block_size lacking : ℕ) (columns : List Column) → 0 < length (records_of columns) → All (IsWhole block_size) (front_records (records_of columns)) → Lacks block_size lacking (records_of columns)
    → length (blocks_of columns) + lacking ≡ blocks_due block_size (records_of columns)
blocks_and_lacking block_size lacking columns some whole lacks =
    let rs : List Record = records_of columns in
    let front : List Record = front_records rs in
    let last : Record = last_record rs in
    let split : rs ≡ front ++ last ∷ [] = split_last rs no_record some in
    let blocks : blocks_of columns ≡ blocks_in front ++ last.blocks = blocks_of-records columns ∙ ap blocks_in split ∙ blocks_in-push front last in
    let long : length (blocks_of columns) ≡ length (blocks_in front) + length last.blocks = ap length blocks ∙ length-append (blocks_in front) last.blocks in
    let front_long : length (blocks_in front) ≡ blocks_due block_size front = length-whole block_size front whole in
    let due : blocks_due block_size rs ≡ blocks_due block_size front + block_count block_size last.meta.size = ap (blocks_due block_size) split ∙ blocks_due-push block_size front last in
    omega arith

-- a record that the code appends to the last column
pub put_record : (columns : List Column) (n : ℕ) (column new : Column) (path : List ℕ) (meta : Meta) → n ≡ length columns - 1 → 0 < length columns → column ≡ get_or columns n column
    → new ≡ record column { records = column.records ++ record { path = path; meta = meta; blocks = [] } ∷ [] } → set columns n new ≡ with_record columns path meta
put_record columns n column new path meta last some is grown =
    put_last columns n column last some is new
    ∙ ap (λ (c : Column). with_last_column columns c)
    (grown ∙ ap (λ (c : Column). let grown_column : Column = record { name = c.name; records = c.records ++ record { path = path; meta = meta; blocks = [] } ∷ [] } in grown_column) (read_last columns n column last some is))

-- a block that the code appends to the last record of the last column
pub put_block : (columns : List Column) (n : ℕ) (column new : Column) (block : Block) → n ≡ length columns - 1 → 0 < length columns → column ≡ get_or columns n column
    → new ≡ record column { records = records_with_block column.records block } → set columns n new ≡ with_block columns block
put_block columns n column new block last some is grown =
    put_last columns n column last some is new
    ∙ ap (λ (c : Column). with_last_column columns c)
    (grown ∙ ap (λ (c : Column). let grown_column : Column = record { name = c.name; records = records_with_block c.records block } in grown_column) (read_last columns n column last some is))

-- a column with a record is there, and its record is among all
pub column_there : (columns : List Column) → 0 < length (last_column columns).records → 0 < length columns
column_there [] has = absurd (omega (arith, has))
column_there (c ∷ columns) has = omega arith

pub record_there : (columns : List Column) → 0 < length (last_column columns).records → 0 < length (records_of columns)
record_there columns has = omega (arith, has, records_in_all columns (column_there columns has))

-- whether a position is marked as the last column's
module _ (built : BuildingValue) (used : ℕ → ℕ) (unhashed : ℕ → Bool) (records due lacking end : ℕ) (is : IsCounted built used unhashed records due lacking end) (position mark : ℕ) (below : position < built.length) (read : mark ≡ used position) (some : 0 < length built.columns) where
  pub marked : mark ≡ length built.columns → Uses (last_column built.columns) position
  marked same = is.users.here position some (sym read ∙ same)

  pub unmarked : mark ≢ length built.columns → ¬ (Uses (last_column built.columns) position)
  unmarked other uses = other (read ∙ is.users.nowhere_else position some below uses)

-- whether each block of a stripe has its hash
pub decides_hashed : (built : BuildingValue) (used : ℕ → ℕ) (unhashed : ℕ → Bool) (records due lacking end : ℕ) → IsCounted built used unhashed records due lacking end
    → (stripe : ℕ) (lacks : Bool) → stripe < built.length → lacks ≡ unhashed stripe → IsTrue (not lacks) ↔ IsHashedAt built.columns stripe
decides_hashed built used unhashed records due lacking end is stripe true below read = (λ (no : false ≡ true). absurd (cc), λ hashed. absurd (is.hashes.lacks stripe (sym read) hashed))
decides_hashed built used unhashed records due lacking end is stripe false below read = (λ yes. is.hashes.has stripe below (sym read), λ hashed. refl)

-- the last column has room for a block
pub block_room : (built : BuildingValue) (used : ℕ → ℕ) (unhashed : ℕ → Bool) (records due lacking end : ℕ) (column : Column) → IsCounted built used unhashed records due lacking end → 0 < lacking → 0 < length (last_column built.columns).records
    → column ≡ last_column built.columns → length (column_blocks column) < most_blocks
block_room built used unhashed records due lacking end column is more has last =
    let some : 0 < length built.columns = column_there built.columns has in
    let all : length (blocks_of built.columns) + lacking ≡ blocks_due built.shape.block_size (records_of built.columns) =
    blocks_and_lacking built.shape.block_size lacking built.columns (record_there built.columns has) is.building.earlier_whole is.last_lacks in
    let few : blocks_due built.shape.block_size (records_of built.columns) ≤ most_blocks = is.building.columns.few_blocks in
    let within : length (column_blocks (last_column built.columns)) ≤ length (blocks_of built.columns) = blocks_in_all built.columns some in
    subst (λ (c : Column). length (column_blocks c) < most_blocks) (sym last) (omega (arith, all, few, within))
