-- What is counted of the records and positions goes on with each record and each block.
use Rattle.std.proofs.Common.{◌≡◌, ℕ, ◌+◌, ◌-◌, ◌<◌, ◌≤◌, max, List, [], ◌∷◌, ◌++◌, length, take, refl, sym, ap, ◌∙◌, subst, arith}
use Rattle.std.specs.List.{All, sum_by}
use Rattle.std.proofs.lemmas.List.{map_push, length_push, length-take-le}
use Rattle.std.proofs.lemmas.List.Elements.{All-push, All-nil, All-same, All-head, All-tail}
use Rattle.std.proofs.lemmas.List.Concat.{flat_map-append, length-flat_map}
use Rattle.std.proofs.lemmas.List.Sums.{sum_by_push, sum_by-cons}
use Rattle.file_table.specs.declared.block.Block.{Block}
use Rattle.file_table.specs.Table.{Record, Column, block_count, records_of, column_blocks, blocks_of, positions_of, blocks_due, end_of, no_record}
use Rattle.file_table.specs.Valid.{IsWhole}
use Rattle.file_table.specs.Building.{BuildingValue, LacksBlock, last_record, records_with_block, record_with_block}
use Rattle.file_table.proofs.ListFacts.{split_last, last_of_push, front_of_push}
use Rattle.file_table.proofs.BuildingLemmas.{blocks_in}

abbrev pub front_records : List Record → List Record
front_records records = take (length records - 1) records

-- what the last record lacks, with what it has, is what it asks for
abbrev pub Lacks : ℕ → ℕ → List Record → Type 0
Lacks block_size lacking records = length (last_record records).blocks + lacking ≡ block_count block_size (last_record records).meta.size

-- where the last record lacks nothing, each is whole
pub all_whole : (block_size : ℕ) (records : List Record) → All (IsWhole block_size) (front_records records) → Lacks block_size 0 records → All (IsWhole block_size) records
all_whole block_size [] front last = All-nil (IsWhole block_size)
all_whole block_size (r ∷ rs) front last =
    let records : List Record = r ∷ rs in
    let some : 0 < length records = omega arith in
    let end : IsWhole block_size (last_record records) = omega arith in
    All-same (IsWhole block_size) records _ (split_last records no_record some) (All-push (IsWhole block_size) (front_records records) (last_record records) front end)

-- a record without blocks at the end of whole ones
pub front-record : (block_size : ℕ) (records : List Record) (kept : Record) → All (IsWhole block_size) records → All (IsWhole block_size) (front_records (records ++ kept ∷ []))
front-record block_size records kept whole = subst (All (IsWhole block_size)) (sym (front_of_push records kept)) whole

pub lacks-record : (block_size : ℕ) (records : List Record) (kept : Record) → kept.blocks ≡ [] → Lacks block_size (block_count block_size kept.meta.size) (records ++ kept ∷ [])
lacks-record block_size records kept empty =
    let none : length kept.blocks ≡ 0 = ap length empty in
    let new : Lacks block_size (block_count block_size kept.meta.size) (records ++ kept ∷ []) =
    subst (λ (r : Record). length r.blocks + block_count block_size kept.meta.size ≡ block_count block_size r.meta.size) (sym (last_of_push records kept no_record)) (omega arith) in
    new

-- a block of the last record
pub front-block : (block_size : ℕ) (records : List Record) (block : Block) → All (IsWhole block_size) (front_records records) → All (IsWhole block_size) (front_records (records_with_block records block))
front-block block_size records block whole = subst (All (IsWhole block_size)) (sym (front_of_push (front_records records) (record_with_block (last_record records) block))) whole

pub lacks-block : (block_size lacking : ℕ) (records : List Record) (block : Block) → 0 < lacking → Lacks block_size lacking records → Lacks block_size (lacking - 1) (records_with_block records block)
lacks-block block_size lacking records block some lacks =
    let last : Record = last_record records in
    let long : length (last.blocks ++ block ∷ []) ≡ length last.blocks + 1 = length_push last.blocks block in
    subst (λ (r : Record). length r.blocks + (lacking - 1) ≡ block_count block_size r.meta.size) (sym (last_of_push (front_records records) (record_with_block last block) no_record)) (omega arith)

-- the last record lacks a block exactly where the number is not 0
pub lacks_some : (building : BuildingValue) (lacking : ℕ) → 0 < length (records_of building.columns) → Lacks building.shape.block_size lacking (records_of building.columns) → 0 < lacking → LacksBlock building
lacks_some building lacking some lacks more = record { some = some; fewer = omega arith }

pub lacks_none : (building : BuildingValue) → Lacks building.shape.block_size 0 (records_of building.columns) → ¬ (LacksBlock building)
lacks_none building lacks some = omega (arith, lacks, some.fewer)

-- how many blocks are due
pub blocks_due-push : (block_size : ℕ) (records : List Record) (kept : Record) → blocks_due block_size (records ++ kept ∷ []) ≡ blocks_due block_size records + block_count block_size kept.meta.size
blocks_due-push block_size records kept = sum_by_push (λ (r : Record). block_count block_size r.meta.size) records kept

pub blocks_due-block : (block_size : ℕ) (records : List Record) (block : Block) → 0 < length records → blocks_due block_size (records_with_block records block) ≡ blocks_due block_size records
blocks_due-block block_size records block some =
    blocks_due-push block_size (front_records records) (record_with_block (last_record records) block)
    ∙ sym (blocks_due-push block_size (front_records records) (last_record records))
    ∙ ap (blocks_due block_size) (sym (split_last records no_record some))

pub length-with_block : (records : List Record) (block : Block) → 0 < length records → length (records_with_block records block) ≡ length records
length-with_block records block some =
    let front : List Record = front_records records in
    let long : length (records_with_block records block) ≡ length front + 1 = length_push front (record_with_block (last_record records) block) in
    let less : length records - 1 ≤ length records = omega arith in
    let short : length front ≡ length records - 1 = length-take-le (length records - 1) records less in
    omega arith

-- the end of the positions
pub end_of-push : (positions : List ℕ) (position : ℕ) → end_of (positions ++ position ∷ []) ≡ max (end_of positions) (position + 1)
end_of-push [] position = omega arith
end_of-push (p ∷ positions) position = ap (λ (n : ℕ). max (p + 1) n) (end_of-push positions position) ∙ omega arith

pub end_of-with_block : (blocks : List Block) (block : Block) → end_of (positions_of (blocks ++ block ∷ [])) ≡ max (end_of (positions_of blocks)) (block.position + 1)
end_of-with_block blocks block = ap end_of (map_push (λ (b : Block). b.position) blocks block) ∙ end_of-push (positions_of blocks) block.position

-- where each record is whole, there are as many blocks as are due
pub blocks_of-records : (columns : List Column) → blocks_of columns ≡ blocks_in (records_of columns)
blocks_of-records [] = refl
blocks_of-records (column ∷ columns) =
    ap (λ (bs : List Block). column_blocks column ++ bs) (blocks_of-records columns)
    ∙ sym (flat_map-append (λ (r : Record). r.blocks) column.records (records_of columns))

length-blocks_in : (block_size : ℕ) (records : List Record) → All (IsWhole block_size) records → sum_by (λ (r : Record). length r.blocks) records ≡ blocks_due block_size records
length-blocks_in block_size [] whole = refl
length-blocks_in block_size (r ∷ records) whole =
    let here : length r.blocks ≡ block_count block_size r.meta.size = All-head (IsWhole block_size) r records whole in
    let rest : sum_by (λ (kept : Record). length kept.blocks) records ≡ blocks_due block_size records = length-blocks_in block_size records (All-tail (IsWhole block_size) r records whole) in
    sum_by-cons (λ (kept : Record). length kept.blocks) r records
    ∙ ap (λ (n : ℕ). n + sum_by (λ (kept : Record). length kept.blocks) records) here
    ∙ ap (λ (n : ℕ). block_count block_size r.meta.size + n) rest
    ∙ sym (sum_by-cons (λ (kept : Record). block_count block_size kept.meta.size) r records)

pub length-whole : (block_size : ℕ) (records : List Record) → All (IsWhole block_size) records → length (blocks_in records) ≡ blocks_due block_size records
length-whole block_size records whole = length-flat_map (λ (r : Record). r.blocks) records ∙ length-blocks_in block_size records whole

pub length-blocks_of : (block_size : ℕ) (columns : List Column) → All (IsWhole block_size) (records_of columns) → length (blocks_of columns) ≡ blocks_due block_size (records_of columns)
length-blocks_of block_size columns whole =
    ap length (blocks_of-records columns)
    ∙ length-whole block_size (records_of columns) whole
