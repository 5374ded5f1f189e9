-- How records, blocks and columns go on with each call of the builder.
use Rattle.std.proofs.Common.{◌≡◌, ℕ, ◌+◌, ◌-◌, ◌<◌, List, [], ◌∷◌, ◌++◌, length, take, refl, sym, ap, ◌∙◌, arith, append_assoc, append-nil}
use Rattle.std.specs.List.{flat_map}
use Rattle.std.proofs.lemmas.List.{length_push}
use Rattle.std.proofs.lemmas.List.Concat.{flat_map-append}
use Rattle.disk_model.specs.declared.meta.Meta.{Meta}
use Rattle.file_table.specs.declared.block.Block.{Block}
use Rattle.file_table.specs.Table.{Record, Column, records_of, column_blocks, blocks_of, no_column, no_record}
use Rattle.file_table.specs.Building.{last_column, last_record, with_last_column, with_column, with_record, with_block, records_with_block, record_with_block}
use Rattle.file_table.proofs.ListFacts.{split_last, last_of_push, front_of_push, length_of_front}

-- all columns but the last
abbrev pub front_columns : List Column → List Column
front_columns columns = take (length columns - 1) columns

pub split_columns : (columns : List Column) → 0 < length columns → columns ≡ front_columns columns ++ last_column columns ∷ []
split_columns columns some = split_last columns no_column some

-- a list that a function gives each column, joined, ends with that of the last
pub flat_map-push : {A : Type 0} (f : Column → List A) (front : List Column) (column : Column) → flat_map f (front ++ column ∷ []) ≡ flat_map f front ++ f column
flat_map-push f front column = flat_map-append f front (column ∷ []) ∙ ap (λ xs. flat_map f front ++ xs) (append-nil (f column))

-- where the last column's list grows, so does the whole
pub flat_map-last : {A : Type 0} (f : Column → List A) (columns : List Column) (column : Column) (more : List A) → 0 < length columns
    → f column ≡ f (last_column columns) ++ more → flat_map f (with_last_column columns column) ≡ flat_map f columns ++ more
flat_map-last {A} f columns column more some grows =
    let front : List Column = front_columns columns in
    let whole : flat_map f columns ≡ flat_map f front ++ f (last_column columns) = ap (λ (cs : List Column). flat_map f cs) (split_columns columns some) ∙ flat_map-push f front (last_column columns) in
    flat_map-push f front column
    ∙ ap (λ (xs : List A). flat_map f front ++ xs) grows
    ∙ sym (append_assoc (flat_map f front) (f (last_column columns)) more)
    ∙ ap (λ (xs : List A). xs ++ more) (sym whole)

-- the records of a column's records
abbrev pub blocks_in : List Record → List Block
blocks_in records = flat_map (λ (kept : Record). kept.blocks) records

pub blocks_in-push : (records : List Record) (kept : Record) → blocks_in (records ++ kept ∷ []) ≡ blocks_in records ++ kept.blocks
blocks_in-push records kept = flat_map-append (λ (r : Record). r.blocks) records (kept ∷ []) ∙ ap (λ (bs : List Block). blocks_in records ++ bs) (append-nil kept.blocks)

-- records with one more block have that block at their end
pub blocks_in-with_block : (records : List Record) (block : Block) → 0 < length records → blocks_in (records_with_block records block) ≡ blocks_in records ++ block ∷ []
blocks_in-with_block records block some =
    let front : List Record = take (length records - 1) records in
    let last : Record = last_record records in
    let whole : blocks_in records ≡ blocks_in front ++ last.blocks = ap blocks_in (split_last records no_record some) ∙ blocks_in-push front last in
    blocks_in-push front (record_with_block last block)
    ∙ sym (append_assoc (blocks_in front) last.blocks (block ∷ []))
    ∙ ap (λ (bs : List Block). bs ++ block ∷ []) (sym whole)

-- a column that is pushed adds neither records nor blocks
pub records_of-with_column : (columns : List Column) (name : List ℕ) → records_of (with_column columns name) ≡ records_of columns
records_of-with_column columns name = flat_map-push (λ (column : Column). column.records) columns (record { name = name; records = [] }) ∙ append-nil (records_of columns)

pub blocks_of-with_column : (columns : List Column) (name : List ℕ) → blocks_of (with_column columns name) ≡ blocks_of columns
blocks_of-with_column columns name = flat_map-push column_blocks columns (record { name = name; records = [] }) ∙ append-nil (blocks_of columns)

-- a record that is pushed stands at the end of all records, and adds no block
pub records_of-with_record : (columns : List Column) (path : List ℕ) (meta : Meta) → 0 < length columns
    → records_of (with_record columns path meta) ≡ records_of columns ++ record { path = path; meta = meta; blocks = [] } ∷ []
records_of-with_record columns path meta some = flat_map-last (λ (column : Column). column.records) columns _ _ some refl

pub blocks_of-with_record : (columns : List Column) (path : List ℕ) (meta : Meta) → 0 < length columns → blocks_of (with_record columns path meta) ≡ blocks_of columns
blocks_of-with_record columns path meta some =
    let kept : Record = record { path = path; meta = meta; blocks = [] } in
    flat_map-last column_blocks columns _ [] some (blocks_in-push (last_column columns).records kept) ∙ append-nil (blocks_of columns)

-- a block that is pushed stands at the end of all blocks
pub blocks_of-with_block : (columns : List Column) (block : Block) → 0 < length columns → 0 < length (last_column columns).records → blocks_of (with_block columns block) ≡ blocks_of columns ++ block ∷ []
blocks_of-with_block columns block some has = flat_map-last column_blocks columns _ (block ∷ []) some (blocks_in-with_block (last_column columns).records block has)

-- the last record of all is that of the last column, where that has one
pub records_of-last : (columns : List Column) → 0 < length columns → 0 < length (last_column columns).records
    → records_of columns ≡ (records_of (front_columns columns) ++ take (length (last_column columns).records - 1) (last_column columns).records) ++ last_record (last_column columns).records ∷ []
records_of-last columns some has =
    let front : List Record = records_of (front_columns columns) in
    let last : List Record = (last_column columns).records in
    ap records_of (split_columns columns some)
    ∙ flat_map-push (λ (column : Column). column.records) (front_columns columns) (last_column columns)
    ∙ ap (λ (rs : List Record). front ++ rs) (split_last last no_record has)
    ∙ sym (append_assoc front (take (length last - 1) last) (last_record last ∷ []))

pub records_of-with_block : (columns : List Column) (block : Block) → 0 < length columns → 0 < length (last_column columns).records → records_of (with_block columns block) ≡ records_with_block (records_of columns) block
records_of-with_block columns block some has =
    let front : List Record = records_of (front_columns columns) in
    let last : List Record = (last_column columns).records in
    let init : List Record = take (length last - 1) last in
    let end : Record = last_record last in
    let whole : records_of columns ≡ (front ++ init) ++ end ∷ [] = records_of-last columns some has in
    flat_map-push (λ (column : Column). column.records) (front_columns columns) (record { name = (last_column columns).name; records = records_with_block last block })
    ∙ sym (append_assoc front init (record_with_block end block ∷ []))
    ∙ ap (λ (rs : List Record). rs ++ record_with_block end block ∷ []) (sym (front_of_push (front ++ init) end))
    ∙ ap (λ (r : Record). take (length ((front ++ init) ++ end ∷ []) - 1) ((front ++ init) ++ end ∷ []) ++ record_with_block r block ∷ []) (sym (last_of_push (front ++ init) end no_record))
    ∙ ap (λ (rs : List Record). records_with_block rs block) (sym whole)

-- the last column of those with another in its place
pub last_column-with_last : (columns : List Column) (column : Column) → last_column (with_last_column columns column) ≡ column
last_column-with_last columns column = last_of_push (front_columns columns) column no_column

pub length-with_last : (columns : List Column) (column : Column) → 0 < length columns → length (with_last_column columns column) ≡ length columns
length-with_last columns column some =
    let one : length (with_last_column columns column) ≡ length (front_columns columns) + 1 = length_push (front_columns columns) column in
    let two : length (front_columns columns) ≡ length columns - 1 = length_of_front columns in
    omega arith
