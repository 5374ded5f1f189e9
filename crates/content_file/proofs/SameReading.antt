-- Reading on from one place to the next is reading the whole file.
use Rattle.std.proofs.Common.{◌≡◌, ℕ, zero, suc, List, [], ◌∷◌, ◌++◌, refl, sym, ap, ◌∙◌}
use Rattle.disk_model.specs.declared.meta.Meta.{Meta}
use Rattle.file_table.specs.declared.block.Block.{Block}
use Rattle.file_table.specs.Table.{Record, Column, no_column, block_count, records_of, column_blocks}
use Rattle.file_table.specs.Building.{last_column, with_column, with_record, with_block, with_last_records, records_with_block}
use Rattle.file_table.proofs.BuildingLemmas.{blocks_in-push}
use Rattle.content_file.specs.declared.head.Head.{Head}
use Rattle.content_file.specs.Flaw.{Read, Good, Bad, ◌>>=◌, and_then}
use Rattle.content_file.specs.FirstFlaw.{read_many, read_head, read_name, read_count, read_path, read_size, read_stamp, read_block, read_record, read_column, read_content, blocks_in}
use Rattle.content_file.specs.ReadingOn.{read_file, more_blocks, more_records, all_records, more_columns, read_stripes, read_whole}
use Rattle.content_file.proofs.Columns.{column_of, record_of, front-push, last-push, records_of-push, records_of-with_column}
use Rattle.content_file.proofs.TakenRecord.{with_one_more}
use Rattle.content_file.proofs.Steps.{then_then}

-- what follows from a step is the same where it is the same for each that may be read
pub bind_same : {A B : Type 0} (r : Read A) (f g : A → Read B) → ((x : A) → f x ≡ g x) → (r >>= f) ≡ (r >>= g)
unfolding and_then
bind_same (Good x) f g same = same x
bind_same (Bad why field) f g same = refl

-- the same with other steps behind
layer : {A B C D : Type 0} (r : Read A) (f : A → Read B) (g : A → Read C) (k : B → Read D) (h : C → Read D) → ((x : A) → (f x >>= k) ≡ (g x >>= h)) → ((r >>= f) >>= k) ≡ ((r >>= g) >>= h)
unfolding and_then
layer (Good x) f g k h same = same x
layer (Bad why field) f g k h same = refl

deeper : {A B C D E : Type 0} (r : Read A) (f : A → Read B) (g : A → Read C) (k : B → Read E) (h : C → Read D) (l : D → Read E) → ((x : A) → (f x >>= k) ≡ ((g x >>= h) >>= l)) → ((r >>= f) >>= k) ≡ (((r >>= g) >>= h) >>= l)
unfolding and_then
deeper (Good x) f g k h l same = same x
deeper (Bad why field) f g k h l same = refl

-- ---- blocks

last_is : (columns : List Column) (name : List ℕ) (records : List Record) → last_column (columns ++ column_of name records ∷ []) ≡ column_of name records
last_is columns name records = last-push no_column columns (column_of name records)

with_last : (columns : List Column) (name : List ℕ) (records more : List Record) → with_last_records (columns ++ column_of name records ∷ []) more ≡ columns ++ column_of name more ∷ []
with_last columns name records more =
    let all = columns ++ column_of name records ∷ [] in
    ap (λ (front : List Column). front ++ column_of (last_column all).name more ∷ []) (front-push columns (column_of name records))
    ∙ ap (λ (c : Column). columns ++ column_of c.name more ∷ []) (last_is columns name records)

pushed_block : (columns : List Column) (name : List ℕ) (records : List Record) (path : List ℕ) (meta : Meta) (blocks : List Block) (block : Block)
    → with_block (columns ++ column_of name (records ++ record_of path meta blocks ∷ []) ∷ []) block ≡ columns ++ column_of name (records ++ record_of path meta (blocks ++ block ∷ []) ∷ []) ∷ []
pushed_block columns name records path meta blocks block =
    let all = records ++ record_of path meta blocks ∷ [] in
    ap (λ (c : Column). with_last_records (columns ++ column_of name all ∷ []) (records_with_block c.records block)) (last_is columns name all)
    ∙ with_last columns name all (records_with_block all block)
    ∙ ap (λ (rs : List Record). columns ++ column_of name rs ∷ []) (with_one_more records path meta blocks block)

blocks_same : (head : Head) (left : ℕ) (columns : List Column) (name : List ℕ) (records : List Record) (path : List ℕ) (meta : Meta) (blocks : List Block) (bytes : List ℕ)
    → more_blocks head left (columns ++ column_of name (records ++ record_of path meta blocks ∷ []) ∷ []) bytes
    ≡ (read_many (λ before. read_block head.length (blocks_in records ++ before)) left blocks bytes >>= λ all. Good (columns ++ column_of name (records ++ record_of path meta all.0 ∷ []) ∷ [], all.1))
unfolding more_blocks read_many and_then
blocks_same head zero columns name records path meta blocks bytes = refl
blocks_same head (suc n) columns name records path meta blocks bytes =
    let all = records ++ record_of path meta blocks ∷ [] in
    let cs = columns ++ column_of name all ∷ [] in
    let used : column_blocks (last_column cs) ≡ blocks_in records ++ blocks = ap column_blocks (last_is columns name all) ∙ blocks_in-push records (record_of path meta blocks) in
    ap (λ (bs : List Block). read_block head.length bs bytes >>= λ b. more_blocks head n (with_block cs b.0) b.1) used
    ∙ bind_same (read_block head.length (blocks_in records ++ blocks) bytes) _ _
    (λ b. ap (λ (c : List Column). more_blocks head n c b.1) (pushed_block columns name records path meta blocks b.0) ∙ blocks_same head n columns name records path meta (blocks ++ b.0 ∷ []) b.1)
    ∙ sym (then_then (read_block head.length (blocks_in records ++ blocks) bytes) _ _)

-- ---- records

pushed_record : (columns : List Column) (name : List ℕ) (records : List Record) (path : List ℕ) (meta : Meta)
    → with_record (columns ++ column_of name records ∷ []) path meta ≡ columns ++ column_of name (records ++ record_of path meta [] ∷ []) ∷ []
pushed_record columns name records path meta =
    ap (λ (c : Column). with_last_records (columns ++ column_of name records ∷ []) (c.records ++ record_of path meta [] ∷ [])) (last_is columns name records)
    ∙ with_last columns name records (records ++ record_of path meta [] ∷ [])

-- path, size and stamp, after these records of the column, and all these
abbrev file_after : ℕ → List Record → List Record → List ℕ → Read ((List ℕ × Meta) × List ℕ)
file_after block_size records all bytes =
    read_path records bytes >>= λ path. read_size block_size all path.1 >>= λ size. read_stamp size.1 >>= λ stamp.
    Good ((path.0, record { size = size.0; stamp = stamp.0 }), stamp.1)

file_is : (block_size : ℕ) (columns : List Column) (name : List ℕ) (records : List Record) (bytes : List ℕ)
    → read_file block_size (columns ++ column_of name records ∷ []) bytes ≡ file_after block_size records (records_of columns ++ records) bytes
unfolding read_file
file_is block_size columns name records bytes =
    let cs = columns ++ column_of name records ∷ [] in
    ap (λ (c : Column). file_after block_size c.records (records_of cs) bytes) (last_is columns name records)
    ∙ ap (λ (rs : List Record). file_after block_size records rs bytes) (records_of-push columns (column_of name records))

records_same : (head : Head) (left : ℕ) (columns : List Column) (name : List ℕ) (records : List Record) (bytes : List ℕ)
    → more_records head left (columns ++ column_of name records ∷ []) bytes
    ≡ (read_many (read_record head columns) left records bytes >>= λ all. Good (columns ++ column_of name all.0 ∷ [], all.1))
unfolding more_records read_many read_record and_then
records_same head zero columns name records bytes = refl
records_same head (suc n) columns name records bytes =
    let cs = columns ++ column_of name records ∷ [] in
    let size_of = head.shape.block_size in
    let step : (List ℕ × Meta) × List ℕ → Read (List Column × List ℕ) =
    λ file. more_blocks head (block_count size_of file.0.1.size) (with_record cs file.0.0 file.0.1) file.1 >>= λ whole. more_records head n whole.0 whole.1 in
    ap (λ (r : Read ((List ℕ × Meta) × List ℕ)). r >>= step) (file_is size_of columns name records bytes)
    ∙ deeper (read_path records bytes) _ _ step _ _ (λ path.
    deeper (read_size size_of (records_of columns ++ records) path.1) _ _ step _ _ (λ size.
    deeper (read_stamp size.1) _ _ step _ _ (λ stamp.
    let meta : Meta = record { size = size.0; stamp = stamp.0 } in
    let next = λ (before : List Block). read_block head.length (blocks_in records ++ before) in
    ap (λ (c : List Column). more_blocks head (block_count size_of size.0) c stamp.1 >>= λ whole. more_records head n whole.0 whole.1) (pushed_record columns name records path.0 meta)
    ∙ ap (λ (r : Read (List Column × List ℕ)). r >>= λ whole. more_records head n whole.0 whole.1) (blocks_same head (block_count size_of size.0) columns name records path.0 meta [] stamp.1)
    ∙ deeper (read_many next (block_count size_of size.0) [] stamp.1) _ _ _ _ _ (λ all. records_same head n columns name (records ++ record_of path.0 meta all.0 ∷ []) all.1))))

-- ---- columns

count_same : (columns : List Column) (name bytes : List ℕ) → read_count (with_column columns name) bytes ≡ read_count columns bytes
unfolding read_count
count_same columns name bytes = rw (records_of-with_column columns name) refl

columns_same : (head : Head) (left : ℕ) (columns : List Column) (bytes : List ℕ) → more_columns head left columns bytes ≡ read_many (read_column head) left columns bytes
unfolding more_columns all_records read_many read_column and_then
columns_same head zero columns bytes = refl
columns_same head (suc n) columns bytes =
    let step : List Column × List ℕ → Read (List Column × List ℕ) = λ x. more_columns head n x.0 x.1 in
    bind_same (read_name columns bytes) _ _ (λ name.
    ap (λ (r : Read (ℕ × List ℕ)). (r >>= λ count. more_records head count.0 (with_column columns name.0) count.1) >>= step) (count_same columns name.0 name.1)
    ∙ layer (read_count columns name.1) _ _ step _ (λ count.
    ap (λ (r : Read (List Column × List ℕ)). r >>= step) (records_same head count.0 columns name.0 [] count.1)
    ∙ layer (read_many (read_record head columns) count.0 [] count.1) _ _ step _ (λ all. columns_same head n (columns ++ column_of name.0 all.0 ∷ []) all.1)))
    ∙ sym (then_then (read_name columns bytes) _ _)

pub content_same : (bytes : List ℕ) → read_content bytes ≡ read_whole bytes bytes
unfolding read_content read_whole read_stripes
content_same bytes =
    bind_same (read_head bytes) _ _ (λ head. ap (λ (r : Read (List Column × List ℕ)). r >>= λ columns. read_stripes head.0 columns.0 head.0.length [] bytes columns.1) (sym (columns_same head.0 head.0.columns [] head.1)))
