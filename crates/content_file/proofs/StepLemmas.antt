-- One step of reading behind the head: what is still to come after it, and where it stops.
use Rattle.std.proofs.Common.{◌≡◌, ℕ, zero, suc, ◌-◌, ◌<◌, Bool, true, false, eqb, List, [], ◌∷◌, ◌++◌, drop, refl, sym, ap, subst, ◌∙◌, arith}
use Rattle.disk_model.specs.declared.meta.Meta.{Meta}
use Rattle.file_table.specs.declared.block.Block.{Block}
use Rattle.file_table.specs.declared.info.Info.{Info}
use Rattle.file_table.specs.Table.{Column, TableValue, block_count, records_of, column_blocks, blocks_of, positions_of, end_of}
use Rattle.file_table.specs.Building.{last_column, with_column, with_record, with_block}
use Rattle.content_file.specs.declared.head.Head.{Head}
use Rattle.content_file.specs.ReadingOn.{BodyValue}
use Rattle.content_file.specs.Flaw.{Flaw, Length, Read, Good, Bad, ◌>>=◌, and_then, passed_or}
use Rattle.content_file.specs.FirstFlaw.{read_many, read_name, read_count, read_block, read_info, read_end}
use Rattle.content_file.specs.ReadingOn.{read_file, more_blocks, more_records, all_records, some_records, more_columns, read_stripes, read_body}
use Rattle.content_file.proofs.Stays.{Stays, with_more, stays_then, stays_good}
use Rattle.content_file.proofs.FlawStays.{path_stays, size_stays, stamp_stays}

-- a step that was read, or was not, in what follows it
pub then_is : {A B : Type 0} (r : Read A) (f : A → Read B) (x : A) → r ≡ Good x → (r >>= f) ≡ f x
unfolding and_then
then_is r f x e = ap (λ s. s >>= f) e

pub then_bad : {A B : Type 0} (r : Read A) (f : A → Read B) (why : Flaw) (field : List ℕ) → r ≡ Bad why field → (r >>= f) ≡ Bad why field
unfolding and_then
then_bad r f why field e = ap (λ s. s >>= f) e

pub stays_is : {A : Type 0} (extended : A → A) (more : List ℕ) (r s : Read A) (x : A) → Stays extended more r s → r ≡ Good x → s ≡ Good (extended x)
unfolding Stays
stays_is extended more r s x stays e = subst (λ t. Stays extended more t s) e stays

-- ---- what was read is read again with more bytes behind

pub file_stays : (block_size : ℕ) (columns : List Column) (bytes more : List ℕ) → Stays (with_more more) more (read_file block_size columns bytes) (read_file block_size columns (bytes ++ more))
unfolding read_file
file_stays block_size columns bytes more =
    stays_then (with_more more) (with_more more) more _ _ _ _ (path_stays (last_column columns).records bytes more) (λ path.
    stays_then (with_more more) (with_more more) more _ _ _ _ (size_stays block_size (records_of columns) path.1 more) (λ size.
    stays_then (with_more more) (with_more more) more _ _ _ _ (stamp_stays size.1 more) (λ stamp.
    stays_good (with_more more) more _)))

-- ---- so many parts more, of which one is read

pub block_goes : (head : Head) (n : ℕ) (columns : List Column) (bytes : List ℕ) (block : Block) (rest : List ℕ) → 0 < n → read_block head.length (column_blocks (last_column columns)) bytes ≡ Good (block, rest)
    → more_blocks head n columns bytes ≡ more_blocks head (n - 1) (with_block columns block) rest
unfolding more_blocks
block_goes head zero columns bytes block rest some e = absurd (omega (arith, some))
block_goes head (suc n) columns bytes block rest some e =
    let one : suc n - 1 ≡ n = omega arith in
    then_is _ _ (block, rest) e ∙ ap (λ (k : ℕ). more_blocks head k (with_block columns block) rest) (sym one)

pub block_stops : (head : Head) (n : ℕ) (columns : List Column) (bytes : List ℕ) (why : Flaw) (field : List ℕ) → 0 < n → read_block head.length (column_blocks (last_column columns)) bytes ≡ Bad why field
    → more_blocks head n columns bytes ≡ Bad why field
unfolding more_blocks
block_stops head zero columns bytes why field some e = absurd (omega (arith, some))
block_stops head (suc n) columns bytes why field some e = then_bad _ _ why field e

pub count_goes : (head : Head) (columns : List Column) (bytes : List ℕ) (count : ℕ) (rest : List ℕ) → read_count columns bytes ≡ Good (count, rest) → all_records head columns bytes ≡ more_records head count columns rest
unfolding all_records
count_goes head columns bytes count rest e = then_is _ _ (count, rest) e

pub count_stops : (head : Head) (columns : List Column) (bytes : List ℕ) (why : Flaw) (field : List ℕ) → read_count columns bytes ≡ Bad why field → all_records head columns bytes ≡ Bad why field
unfolding all_records
count_stops head columns bytes why field e = then_bad _ _ why field e

pub record_goes : (head : Head) (n : ℕ) (columns : List Column) (bytes path : List ℕ) (meta : Meta) (rest : List ℕ) → 0 < n → read_file head.shape.block_size columns bytes ≡ Good ((path, meta), rest)
    → more_records head n columns bytes ≡ (more_blocks head (block_count head.shape.block_size meta.size) (with_record columns path meta) rest >>= λ whole. more_records head (n - 1) whole.0 whole.1)
unfolding more_records
record_goes head zero columns bytes path meta rest some e = absurd (omega (arith, some))
record_goes head (suc n) columns bytes path meta rest some e =
    let one : suc n - 1 ≡ n = omega arith in
    then_is _ _ ((path, meta), rest) e
    ∙ ap (λ (k : ℕ). more_blocks head (block_count head.shape.block_size meta.size) (with_record columns path meta) rest >>= λ whole. more_records head k whole.0 whole.1) (sym one)

pub record_stops : (head : Head) (n : ℕ) (columns : List Column) (bytes : List ℕ) (why : Flaw) (field : List ℕ) → 0 < n → read_file head.shape.block_size columns bytes ≡ Bad why field
    → more_records head n columns bytes ≡ Bad why field
unfolding more_records
record_stops head zero columns bytes why field some e = absurd (omega (arith, some))
record_stops head (suc n) columns bytes why field some e = then_bad _ _ why field e

pub name_goes : (head : Head) (n : ℕ) (columns : List Column) (bytes name rest : List ℕ) → 0 < n → read_name columns bytes ≡ Good (name, rest)
    → more_columns head n columns bytes ≡ (all_records head (with_column columns name) rest >>= λ column. more_columns head (n - 1) column.0 column.1)
unfolding more_columns
name_goes head zero columns bytes name rest some e = absurd (omega (arith, some))
name_goes head (suc n) columns bytes name rest some e =
    let one : suc n - 1 ≡ n = omega arith in
    then_is _ _ (name, rest) e
    ∙ ap (λ (k : ℕ). all_records head (with_column columns name) rest >>= λ column. more_columns head k column.0 column.1) (sym one)

pub name_stops : (head : Head) (n : ℕ) (columns : List Column) (bytes : List ℕ) (why : Flaw) (field : List ℕ) → 0 < n → read_name columns bytes ≡ Bad why field → more_columns head n columns bytes ≡ Bad why field
unfolding more_columns
name_stops head zero columns bytes why field some e = absurd (omega (arith, some))
name_stops head (suc n) columns bytes why field some e = then_bad _ _ why field e

-- the length fits the positions
abbrev pub is_length : Head → List Column → Bool
is_length head columns = eqb head.length (end_of (positions_of (blocks_of columns)))

pub stripe_goes : (head : Head) (columns : List Column) (n : ℕ) (infos : List Info) (whole bytes : List ℕ) (info : Info) (rest : List ℕ) → 0 < n → is_length head columns ≡ true → read_info columns infos bytes ≡ Good (info, rest)
    → read_stripes head columns n infos whole bytes ≡ read_stripes head columns (n - 1) (infos ++ info ∷ []) whole rest
unfolding read_stripes read_many passed_or and_then
stripe_goes head columns zero infos whole bytes info rest some fits e = absurd (omega (arith, some))
stripe_goes head columns (suc n) infos whole bytes info rest some fits e =
    let one : suc n - 1 ≡ n = omega arith in
    rw (fits, one, e) refl

pub stripe_stops : (head : Head) (columns : List Column) (n : ℕ) (infos : List Info) (whole bytes : List ℕ) (why : Flaw) (field : List ℕ) → 0 < n → is_length head columns ≡ true → read_info columns infos bytes ≡ Bad why field
    → read_stripes head columns n infos whole bytes ≡ Bad why field
unfolding read_stripes read_many passed_or and_then
stripe_stops head columns zero infos whole bytes why field some fits e = absurd (omega (arith, some))
stripe_stops head columns (suc n) infos whole bytes why field some fits e = rw (fits, e) refl

pub length_stops : (head : Head) (columns : List Column) (n : ℕ) (infos : List Info) (whole bytes : List ℕ) → is_length head columns ≡ false → read_stripes head columns n infos whole bytes ≡ Bad Length (drop 30 whole)
unfolding read_stripes passed_or and_then
length_stops head columns n infos whole bytes wrong = rw wrong refl

pub stripes_end : (head : Head) (columns : List Column) (infos : List Info) (whole bytes : List ℕ) → is_length head columns ≡ true
    → read_stripes head columns 0 infos whole bytes ≡ (read_end whole bytes >>= λ digest. Good (record { shape = head.shape; columns = columns; infos = infos }))
unfolding read_stripes read_many passed_or and_then
stripes_end head columns infos whole bytes fits = rw fits refl

-- ---- what is still to come, by what comes next

-- the rest of a table, from its columns on
abbrev pub columns_on : Head → ℕ → ℕ → List Info → List ℕ → List Column × List ℕ → Read TableValue
columns_on head n stripes infos whole x = more_columns head n x.0 x.1 >>= λ columns. read_stripes head columns.0 stripes infos whole columns.1

abbrev pub records_on : Head → Bool → ℕ → ℕ → ℕ → List Info → List ℕ → List Column × List ℕ → Read TableValue
records_on head named records n stripes infos whole x = some_records head named records x.0 x.1 >>= columns_on head n stripes infos whole

pub body_is : (body : BodyValue) (whole bytes : List ℕ)
    → read_body body whole bytes ≡ (more_blocks body.head body.blocks body.builder.columns bytes >>= records_on body.head body.named body.records body.columns body.stripes body.builder.infos whole)
unfolding read_body
body_is body whole bytes = refl

zero_blocks : (head : Head) (n : ℕ) (columns : List Column) (bytes : List ℕ) → n ≡ 0 → more_blocks head n columns bytes ≡ Good (columns, bytes)
unfolding more_blocks
zero_blocks head n columns bytes e = rw e refl

zero_records : (head : Head) (named : Bool) (n : ℕ) (columns : List Column) (bytes : List ℕ) → named ≡ false → n ≡ 0 → some_records head named n columns bytes ≡ Good (columns, bytes)
unfolding more_records
zero_records head named n columns bytes e0 e = rw (e0, e) refl

zero_columns : (head : Head) (n : ℕ) (columns : List Column) (bytes : List ℕ) → n ≡ 0 → more_columns head n columns bytes ≡ Good (columns, bytes)
unfolding more_columns
zero_columns head n columns bytes e = rw e refl

-- where no block is to come, the records come next; where no record, the columns; where no column, the stripes
pub body_no_blocks : (body : BodyValue) (whole bytes : List ℕ) → body.blocks ≡ 0
    → read_body body whole bytes ≡ records_on body.head body.named body.records body.columns body.stripes body.builder.infos whole (body.builder.columns, bytes)
body_no_blocks body whole bytes e = body_is body whole bytes ∙ then_is _ _ _ (zero_blocks body.head body.blocks body.builder.columns bytes e)

pub body_no_records : (body : BodyValue) (whole bytes : List ℕ) → body.blocks ≡ 0 → body.named ≡ false → body.records ≡ 0
    → read_body body whole bytes ≡ columns_on body.head body.columns body.stripes body.builder.infos whole (body.builder.columns, bytes)
body_no_records body whole bytes e e0 e1 =
    body_no_blocks body whole bytes e ∙ then_is _ _ _ (zero_records body.head body.named body.records body.builder.columns bytes e0 e1)

pub body_no_columns : (body : BodyValue) (whole bytes : List ℕ) → body.blocks ≡ 0 → body.named ≡ false → body.records ≡ 0 → body.columns ≡ 0
    → read_body body whole bytes ≡ read_stripes body.head body.builder.columns body.stripes body.builder.infos whole bytes
body_no_columns body whole bytes e e0 e1 e2 =
    body_no_records body whole bytes e e0 e1 ∙ then_is _ _ _ (zero_columns body.head body.columns body.builder.columns bytes e2)
