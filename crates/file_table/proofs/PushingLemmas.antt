-- Columns with more and more at their end, and what a builder was given so far.
use Rattle.std.proofs.Common.{◌≡◌, ℕ, ◌-◌, ◌<◌, List, [], ◌∷◌, ◌++◌, length, get_or, take, sym, ap, subst, ◌∙◌, append_assoc, arith}
use Rattle.std.proofs.lemmas.List.{append-nil, length-append}
use Rattle.std.proofs.lemmas.Grind.{flat_map-append}
use Rattle.disk_model.specs.declared.meta.Meta.{Meta}
use Rattle.file_table.specs.declared.block.Block.{Block}
use Rattle.file_table.specs.Table.{Record, Column, no_column, no_record, records_of}
use Rattle.file_table.specs.Building.{last_column, last_record, newest_record, with_last_column, with_last_records, with_column, with_record, with_block, BuildingValue, PushesDisk, PushesRecord, PushesBlock}
use Rattle.file_table.specs.Pushing.{with_more_blocks, grown, with_blocks, with_records, with_columns, TakesBlocks, TakesRecords}
use Rattle.file_table.proofs.ListFacts.{split_last, last_of_push, front_of_push}

-- all but the last of a list
abbrev pub front : {X : Type 0} → List X → List X
front xs = take (length xs - 1) xs

pub front_and_last : {X : Type 0} (xs : List X) (d : X) → 0 < length xs → front xs ++ get_or xs (length xs - 1) d ∷ [] ≡ xs
front_and_last xs d some = sym (split_last xs d some)

-- ---- records at the end of the last column

pub last_column-with : (columns : List Column) (column : Column) → last_column (with_last_column columns column) ≡ column
last_column-with columns column = last_of_push (front columns) column no_column

pub with_last-with : (columns : List Column) (first second : Column) → with_last_column (with_last_column columns first) second ≡ with_last_column columns second
with_last-with columns first second = ap (λ (cs : List Column). cs ++ second ∷ []) (front_of_push (front columns) first)

abbrev pub column_of : List ℕ → List Record → Column
column_of name records = record { name = name; records = records }

pub with_last_records-with : (columns : List Column) (first second : List Record) → with_last_records (with_last_records columns first) second ≡ with_last_records columns second
with_last_records-with columns first second =
    let c = column_of (last_column columns).name first in
    with_last-with columns c (column_of (last_column (with_last_column columns c)).name second)
    ∙ ap (λ (k : Column). with_last_column columns (column_of k.name second)) (last_column-with columns c)

pub with_records-nil : (columns : List Column) → 0 < length columns → with_records columns [] ≡ columns
with_records-nil columns some =
    ap (λ (rs : List Record). with_last_records columns rs) (append-nil (last_column columns).records)
    ∙ front_and_last columns no_column some

pub with_records-more : (columns : List Column) (records more : List Record) → with_records (with_records columns records) more ≡ with_records columns (records ++ more)
with_records-more columns records more =
    let all = (last_column columns).records ++ records in
    let c = column_of (last_column columns).name all in
    ap (λ (k : Column). with_last_records (with_records columns records) (k.records ++ more)) (last_column-with columns c)
    ∙ with_last_records-with columns all (all ++ more)
    ∙ ap (λ (rs : List Record). with_last_records columns rs) (append_assoc (last_column columns).records records more)

pub with_records-column : (columns : List Column) (name : List ℕ) (records : List Record) → with_records (with_column columns name) records ≡ columns ++ column_of name records ∷ []
with_records-column columns name records =
    let c = column_of name [] in
    ap (λ (cs : List Column). cs ++ column_of (last_column (columns ++ c ∷ [])).name ((last_column (columns ++ c ∷ [])).records ++ records) ∷ []) (front_of_push columns c)
    ∙ ap (λ (k : Column). columns ++ column_of k.name (k.records ++ records) ∷ []) (last_of_push columns c no_column)

pub records_of-push : (columns : List Column) (column : Column) → records_of (columns ++ column ∷ []) ≡ records_of columns ++ column.records
records_of-push columns column =
    flat_map-append (λ (c : Column). c.records) columns (column ∷ []) ∙ ap (λ (rs : List Record). records_of columns ++ rs) (append-nil column.records)

pub records_of-with_column : (columns : List Column) (name : List ℕ) → records_of (with_column columns name) ≡ records_of columns
records_of-with_column columns name = records_of-push columns (column_of name []) ∙ append-nil (records_of columns)

-- all records before those of the last column, and those
pub records_of-parts : (columns : List Column) → 0 < length columns → records_of columns ≡ records_of (front columns) ++ (last_column columns).records
records_of-parts columns some =
    ap records_of (sym (front_and_last columns no_column some)) ∙ records_of-push (front columns) (last_column columns)

pub records_of-with_last_records : (columns : List Column) (records : List Record) → records_of (with_last_records columns records) ≡ records_of (front columns) ++ records
records_of-with_last_records columns records = records_of-push (front columns) (column_of (last_column columns).name records)

pub records_of-with_records : (columns : List Column) (records : List Record) → 0 < length columns → records_of (with_records columns records) ≡ records_of columns ++ records
records_of-with_records columns records some =
    records_of-with_last_records columns ((last_column columns).records ++ records)
    ∙ sym (append_assoc (records_of (front columns)) (last_column columns).records records)
    ∙ ap (λ (rs : List Record). rs ++ records) (sym (records_of-parts columns some))

-- ---- blocks at the end of the last record

pub grown-grown : (records : List Record) (blocks more : List Block) → grown (grown records blocks) more ≡ grown records (blocks ++ more)
grown-grown records blocks more =
    let k = with_more_blocks (last_record records) blocks in
    ap (λ (rs : List Record). rs ++ with_more_blocks (last_record (grown records blocks)) more ∷ []) (front_of_push (front records) k)
    ∙ ap (λ (r : Record). front records ++ with_more_blocks r more ∷ []) (last_of_push (front records) k no_record)
    ∙ ap (λ (bs : List Block). front records ++ record { path = (last_record records).path; meta = (last_record records).meta; blocks = bs } ∷ []) (append_assoc (last_record records).blocks blocks more)

pub grown-nil : (records : List Record) → 0 < length records → grown records [] ≡ records
grown-nil records some =
    ap (λ (bs : List Block). front records ++ record { path = (last_record records).path; meta = (last_record records).meta; blocks = bs } ∷ []) (append-nil (last_record records).blocks)
    ∙ front_and_last records no_record some

pub with_blocks-nil : (columns : List Column) → 0 < length columns → 0 < length (last_column columns).records → with_blocks columns [] ≡ columns
with_blocks-nil columns some some_record =
    ap (λ (rs : List Record). with_last_records columns rs) (grown-nil (last_column columns).records some_record)
    ∙ front_and_last columns no_column some

pub with_blocks-more : (columns : List Column) (blocks more : List Block) → with_blocks (with_blocks columns blocks) more ≡ with_blocks columns (blocks ++ more)
with_blocks-more columns blocks more =
    let all = grown (last_column columns).records blocks in
    let c = column_of (last_column columns).name all in
    ap (λ (k : Column). with_last_records (with_blocks columns blocks) (grown k.records more)) (last_column-with columns c)
    ∙ with_last_records-with columns all (grown all more)
    ∙ ap (λ (rs : List Record). with_last_records columns rs) (grown-grown (last_column columns).records blocks more)

abbrev pub record_of : List ℕ → Meta → List Block → Record
record_of path meta blocks = record { path = path; meta = meta; blocks = blocks }

pub grown-new : (records : List Record) (path : List ℕ) (meta : Meta) (blocks : List Block) → grown (records ++ record_of path meta [] ∷ []) blocks ≡ records ++ record_of path meta blocks ∷ []
grown-new records path meta blocks =
    let r = record_of path meta [] in
    ap (λ (rs : List Record). rs ++ with_more_blocks (last_record (records ++ r ∷ [])) blocks ∷ []) (front_of_push records r)
    ∙ ap (λ (k : Record). records ++ with_more_blocks k blocks ∷ []) (last_of_push records r no_record)

pub with_blocks-record : (columns : List Column) (path : List ℕ) (meta : Meta) (blocks : List Block) → with_blocks (with_record columns path meta) blocks ≡ with_records columns (record_of path meta blocks ∷ [])
with_blocks-record columns path meta blocks =
    let rs = (last_column columns).records in
    let all = rs ++ record_of path meta [] ∷ [] in
    let c = column_of (last_column columns).name all in
    ap (λ (k : Column). with_last_records (with_record columns path meta) (grown k.records blocks)) (last_column-with columns c)
    ∙ with_last_records-with columns all (grown all blocks)
    ∙ ap (λ (xs : List Record). with_last_records columns xs) (grown-new rs path meta blocks)

pub some_column-with : (columns : List Column) (column : Column) → 0 < length (with_last_column columns column)
some_column-with columns column = omega (arith, length-append (front columns) (column ∷ []))

pub some_record-with_blocks : (columns : List Column) (blocks : List Block) → 0 < length (last_column (with_blocks columns blocks)).records
some_record-with_blocks columns blocks =
    let all = grown (last_column columns).records blocks in
    let e : (last_column (with_blocks columns blocks)).records ≡ all = ap (λ (c : Column). c.records) (last_column-with columns (column_of (last_column columns).name all)) in
    omega (arith, ap length e, length-append (front (last_column columns).records) (with_more_blocks (newest_record columns) blocks ∷ []))

pub newest-with_record : (columns : List Column) (path : List ℕ) (meta : Meta) → newest_record (with_record columns path meta) ≡ record_of path meta []
newest-with_record columns path meta =
    let rs = (last_column columns).records in
    let all = rs ++ record_of path meta [] ∷ [] in
    ap (λ (c : Column). last_record c.records) (last_column-with columns (column_of (last_column columns).name all)) ∙ last_of_push rs (record_of path meta []) no_record

pub some_record-with_record : (columns : List Column) (path : List ℕ) (meta : Meta) → 0 < length (last_column (with_record columns path meta)).records
some_record-with_record columns path meta =
    let rs = (last_column columns).records in
    let all = rs ++ record_of path meta [] ∷ [] in
    let e : (last_column (with_record columns path meta)).records ≡ all = ap (λ (c : Column). c.records) (last_column-with columns (column_of (last_column columns).name all)) in
    omega (arith, ap length e, length-append rs (record_of path meta [] ∷ []))

-- the last of all records, when the last record has more blocks
pub last_record-with_blocks : (columns : List Column) (blocks : List Block) → last_record (records_of (with_blocks columns blocks)) ≡ with_more_blocks (newest_record columns) blocks
last_record-with_blocks columns blocks =
    let before = records_of (front columns) in
    let others = front (last_column columns).records in
    let kept = with_more_blocks (newest_record columns) blocks in
    ap last_record (records_of-with_last_records columns (others ++ kept ∷ []) ∙ sym (append_assoc before others (kept ∷ []))) ∙ last_of_push (before ++ others) kept no_record

pub some_record_of-with_blocks : (columns : List Column) (blocks : List Block) → 0 < length (records_of (with_blocks columns blocks))
some_record_of-with_blocks columns blocks =
    let before = records_of (front columns) in
    let others = front (last_column columns).records in
    let kept = with_more_blocks (newest_record columns) blocks in
    let e = records_of-with_last_records columns (others ++ kept ∷ []) in
    omega (arith, ap length e, length-append before (others ++ kept ∷ []), length-append others (kept ∷ []))

-- ---- what was pushed so far, and one part more

pub takes_blocks : (old : BuildingValue) (blocks : List Block) → TakesBlocks old → TakesBlocks (with_columns old (with_blocks old.columns blocks))
takes_blocks old blocks takes = record {
  before_infos = takes.before_infos;
  column = some_column-with old.columns _;
  some = some_record-with_blocks old.columns blocks;
}

pub block_pushed : (old mid new : BuildingValue) (blocks : List Block) (block : Block) → mid ≡ with_columns old (with_blocks old.columns blocks) → PushesBlock mid block new
    → new ≡ with_columns old (with_blocks old.columns (blocks ++ block ∷ []))
block_pushed old mid new blocks block so_far push =
    push.pushed ∙ ap (λ (b : BuildingValue). with_columns b (with_block b.columns block)) so_far ∙ ap (with_columns old) (with_blocks-more old.columns blocks (block ∷ []))

pub no_block_pushed : (old : BuildingValue) → TakesBlocks old → old ≡ with_columns old (with_blocks old.columns [])
no_block_pushed old takes = ap (with_columns old) (sym (with_blocks-nil old.columns takes.column takes.some))

pub record_takes : (old mid : BuildingValue) (path : List ℕ) (meta : Meta) → TakesRecords old → PushesRecord old path meta mid → TakesBlocks mid
record_takes old mid path meta takes push =
    let made : TakesBlocks (with_columns old (with_record old.columns path meta)) = record {
      before_infos = takes.before_infos;
      column = some_column-with old.columns _;
      some = some_record-with_record old.columns path meta;
    } in
    subst TakesBlocks (sym push.pushed) made

pub file_pushed : (old mid new : BuildingValue) (path : List ℕ) (meta : Meta) (blocks : List Block) → PushesRecord old path meta mid → new ≡ with_columns mid (with_blocks mid.columns blocks)
    → new ≡ with_columns old (with_records old.columns (record_of path meta blocks ∷ []))
file_pushed old mid new path meta blocks push then =
    then ∙ ap (λ (b : BuildingValue). with_columns b (with_blocks b.columns blocks)) push.pushed ∙ ap (with_columns old) (with_blocks-record old.columns path meta blocks)

pub takes_records : (old : BuildingValue) (records : List Record) → TakesRecords old → TakesRecords (with_columns old (with_records old.columns records))
takes_records old records takes = record { before_infos = takes.before_infos; column = some_column-with old.columns _ }

pub record_pushed : (old mid new : BuildingValue) (records : List Record) (kept : Record) → mid ≡ with_columns old (with_records old.columns records) → new ≡ with_columns mid (with_records mid.columns (kept ∷ []))
    → new ≡ with_columns old (with_records old.columns (records ++ kept ∷ []))
record_pushed old mid new records kept so_far push =
    push ∙ ap (λ (b : BuildingValue). with_columns b (with_records b.columns (kept ∷ []))) so_far ∙ ap (with_columns old) (with_records-more old.columns records (kept ∷ []))

pub no_record_pushed : (old : BuildingValue) → TakesRecords old → old ≡ with_columns old (with_records old.columns [])
no_record_pushed old takes = ap (with_columns old) (sym (with_records-nil old.columns takes.column))

pub disk_takes : (old mid : BuildingValue) (name : List ℕ) → old.infos ≡ [] → PushesDisk old name mid → TakesRecords mid
disk_takes old mid name before push =
    let made : TakesRecords (with_columns old (with_column old.columns name)) = record {
      before_infos = before;
      column = omega (arith, length-append old.columns (column_of name [] ∷ []));
    } in
    subst TakesRecords (sym push.pushed) made

pub column_pushed : (old mid new : BuildingValue) (name : List ℕ) (records : List Record) → PushesDisk old name mid → new ≡ with_columns mid (with_records mid.columns records)
    → new ≡ with_columns old (old.columns ++ column_of name records ∷ [])
column_pushed old mid new name records push then =
    then ∙ ap (λ (b : BuildingValue). with_columns b (with_records b.columns records)) push.pushed ∙ ap (with_columns old) (with_records-column old.columns name records)
