-- Each step of reading behind the head keeps what is said of a body, and goes on with the rest.
use Rattle.std.proofs.Common.{◌≡◌, ◌⊎◌, inl, inr, ℕ, ◌+◌, ◌-◌, ◌<◌, ◌≤◌, Bool, true, false, List, [], ◌∷◌, ◌++◌, length, Some, Result, Ok, Err, refl, sym, ap, subst, ◌∙◌, append_assoc, arith, All, IfErr}
use Rattle.std.specs.Prelude.{IsErrAnd}
use Rattle.std.proofs.lemmas.Bool.{leb-true}
use Rattle.std.proofs.lemmas.Bool.Decides.{Decides-eqb}
use Rattle.std.proofs.lemmas.List.{length-append, length-take}
use Rattle.std.proofs.lemmas.List.Elements.{All-push, All-same}
use Rattle.disk_model.specs.declared.meta.Meta.{Meta}
use Rattle.file_table.specs.declared.block.Block.{Block}
use Rattle.file_table.specs.declared.info.Info.{Info}
use Rattle.file_table.specs.Table.{Record, Column, no_record, block_count, records_of, column_blocks, blocks_of, positions_of, end_of}
use Rattle.file_table.specs.Valid.{IsWhole, most_records}
use Rattle.file_table.specs.Building.{BuildingValue, IsBuilding, last_column, last_record, newest_record, with_column, with_record, with_block, with_last_column, record_with_block, records_with_block, PushesRecord, PushesBlock, PushesInfo}
use Rattle.content_file.specs.ReadingOn.{BodyValue}
use Rattle.content_file.specs.declared.fault.Refusal.{Refusal}
use Rattle.content_file.specs.declared.fault.Refusal.TheVariants as refusals
use Rattle.content_file.specs.Flaw.{Read, Good, Bad, ◌>>=◌, and_then}
use Rattle.content_file.specs.Giving.{Refuses}
use Rattle.content_file.specs.FirstFlaw.{read_name, read_count, read_block, read_info}
use Rattle.content_file.specs.ReadingOn.{read_file, more_blocks, more_records, all_records, read_stripes, read_body}
use Rattle.content_file.specs.Body.{IsPastColumns, IsReading, ReadsName, StepsTo, StopsAt}
use Rattle.content_file.proofs.FlawLemmas.{good_then, passed_is}
use Rattle.content_file.proofs.FlawStays.{name_stays, count_stays, block_stays, info_stays}
use Rattle.content_file.proofs.Columns.{column_of, record_of, front_of, front-push, last-push, front_and_last, last_column-with, records_of-with_column, records_of-parts, records_of-with_last_records, some_column-with, newest-with_record, some_record-with_record}
use Rattle.content_file.proofs.Rests.{ends_of, shorter, name_rest, count_rest, file_rest, block_rest, info_rest}
use Rattle.content_file.proofs.StepLemmas.{then_bad, stays_is, file_stays, block_goes, block_stops, count_goes, count_stops, record_goes, record_stops, name_goes, name_stops, is_length, stripe_goes, stripe_stops, length_stops, columns_on, records_on, body_is, body_no_blocks, body_no_records, body_no_columns}

-- a refusal that is handed on
pub handed : {T E : Type 0} (P : E → Type 0) (r : Result T E) (e : E) → IsErrAnd r (λ d. d ≡ e) → P e → IfErr r P
handed P (Ok x) e known p = tt
handed P (Err d) e known p = subst P (sym known) p

pub handed_on : {T E : Type 0} (P : Result T E → Type 0) (r : Result T E) (e : E) → IsErrAnd r (λ d. d ≡ e) → P (Err e) → P r
handed_on P (Ok x) e known p = absurd known
handed_on P (Err d) e known p = subst (λ (y : _). P (Err y)) (sym known) p

-- steps one after another
pub then_then : {A B C : Type 0} (r : Read A) (f : A → Read B) (g : B → Read C) → ((r >>= f) >>= g) ≡ (r >>= λ x. f x >>= g)
unfolding and_then
then_then (Good x) f g = refl
then_then (Bad why field) f g = refl

-- ---- columns

same_count : (columns : List Column) (column : Column) → 0 < length columns → length (with_last_column columns column) ≡ length columns
same_count columns column some = omega (arith, some, length-append (front_of columns) (column ∷ []), length-take (length columns - 1) columns)

-- all records before the newest, and that
pub records_end : (columns : List Column) → 0 < length columns → 0 < length (last_column columns).records
    → records_of columns ≡ (records_of (front_of columns) ++ front_of (last_column columns).records) ++ newest_record columns ∷ []
records_end columns some some_record =
    let records = (last_column columns).records in
    let front = records_of (front_of columns) in
    records_of-parts columns some ∙ ap (λ (rs : List Record). front ++ rs) (sym (front_and_last no_record records some_record))
    ∙ sym (append_assoc front (front_of records) (last_record records ∷ []))

-- where the newest record has all its blocks, all have
all_whole : (building : BuildingValue) → IsBuilding building → 0 < length building.columns → 0 < length (last_column building.columns).records
    → IsWhole building.shape.block_size (newest_record building.columns) → All (IsWhole building.shape.block_size) (records_of building.columns)
all_whole building is some some_record whole =
    let P = IsWhole building.shape.block_size in
    let front = records_of (front_of building.columns) ++ front_of (last_column building.columns).records in
    let newest = newest_record building.columns in
    let all = records_end building.columns some some_record in
    let cut : front_of (records_of building.columns) ≡ front = ap (λ (rs : List Record). front_of rs) all ∙ front-push front newest in
    All-same P _ _ all (All-push P front newest (subst (All P) cut is.earlier_whole) whole)

newest-with_block : (columns : List Column) (block : Block) → newest_record (with_block columns block) ≡ record_with_block (newest_record columns) block
newest-with_block columns block =
    let records = records_with_block (last_column columns).records block in
    ap (λ (c : Column). last_record c.records) (last_column-with columns (column_of (last_column columns).name records))
    ∙ last-push no_record (front_of (last_column columns).records) (record_with_block (newest_record columns) block)

some_record-with_block : (columns : List Column) (block : Block) → 0 < length (last_column (with_block columns block)).records
some_record-with_block columns block =
    let records = records_with_block (last_column columns).records block in
    let e : (last_column (with_block columns block)).records ≡ records = ap (λ (c : Column). c.records) (last_column-with columns (column_of (last_column columns).name records)) in
    omega (arith, ap length e, length-append (front_of (last_column columns).records) (record_with_block (newest_record columns) block ∷ []))

count-with_block : (columns : List Column) (block : Block) → 0 < length columns → 0 < length (last_column columns).records
    → length (records_of (with_block columns block)) ≡ length (records_of columns)
count-with_block columns block some some_record =
    let records = (last_column columns).records in
    let front = records_of (front_of columns) in
    let more = records_with_block records block in
    omega (
      arith,
      some_record,
      ap length (records_of-with_last_records columns more),
      length-append front more,
      length-append (front_of records) (record_with_block (last_record records) block ∷ []),
      length-take (length records - 1) records,
      ap length (records_of-parts columns some),
      length-append front records,
    )

-- ---- a block

-- the same building with other columns, or with other infos
abbrev with_columns : BuildingValue → List Column → BuildingValue
with_columns building columns = record building { columns = columns }

abbrev after_block : BodyValue → BuildingValue → BodyValue
after_block old built = record old { builder = built; blocks = old.blocks - 1 }

not_past : (body : BodyValue) → 0 < body.blocks → (body.builder.infos ≡ []) ⊎ IsPastColumns body → body.builder.infos ≡ []
not_past body some (inl none) = none
not_past body some (inr past) = absurd (omega (arith, some, past.blocks))

pub block_reading : (old : BodyValue) (block : Block) → IsReading old → 0 < old.blocks → IsBuilding (with_columns old.builder (with_block old.builder.columns block))
    → IsReading (after_block old (with_columns old.builder (with_block old.builder.columns block)))
block_reading old block reading some building =
    let columns = old.builder.columns in
    let lacks = reading.lacking some in
    let column = column_of (last_column columns).name (records_with_block (last_column columns).records block) in
    let built = with_columns old.builder (with_block columns block) in
    let newest = newest-with_block columns block in
    let longer : length (newest_record (with_block columns block)).blocks ≡ length (newest_record columns).blocks + 1 = ap (λ (r : Record). length r.blocks) newest ∙ length-append (newest_record columns).blocks (block ∷ []) in
    let size : block_count built.shape.block_size (newest_record (with_block columns block)).meta.size ≡ block_count built.shape.block_size (newest_record columns).meta.size = ap (λ (r : Record). block_count built.shape.block_size r.meta.size) newest in
    let some_column = some_column-with columns _ in
    let some_record = some_record-with_block columns block in
    record {
      building = building;
      shape = reading.shape;
      same_length = reading.same_length;
      lacking = λ more. record { column = some_column; some = some_record; lacking = omega (arith, longer, size, lacks.lacking, more) };
      whole = λ none. all_whole built building some_column some_record (omega (arith, longer, size, lacks.lacking, none, some));
      column = λ _. some_column;
      some = omega (arith, same_count columns column lacks.column, reading.some);
      room = omega (arith, same_count columns column lacks.column, reading.room);
      read = reading.read ∙ sym (count-with_block columns block lacks.column lacks.some);
      few = reading.few;
      stripes = reading.stripes;
      infos = inl (not_past old some reading.infos);
    }

pub block_steps : (old : BodyValue) (bytes : List ℕ) (block : Block) (rest : List ℕ) (built : BuildingValue) → IsReading old → 0 < old.blocks
    → read_block old.builder.length (column_blocks (last_column old.builder.columns)) bytes ≡ Good (block, rest) → PushesBlock old.builder block built → IsBuilding built
    → StepsTo old bytes (after_block old built) rest
block_steps old bytes block rest built reading some read push building =
    let columns = old.builder.columns in
    let made = with_columns old.builder (with_block columns block) in
    let blocks = column_blocks (last_column columns) in
    let here : read_block old.head.length blocks bytes ≡ Good (block, rest) = subst (λ (n : ℕ). read_block n blocks bytes ≡ Good (block, rest)) reading.same_length read in
    let left = block_rest old.head.length blocks bytes (block, rest) here in
    let steps : StepsTo old bytes (after_block old made) rest = record {
      reading = block_reading old block reading some (subst IsBuilding push.pushed building);
      goes_on = record {
        goes = λ whole more.
            let again = stays_is _ more _ _ (block, rest) (block_stays old.head.length blocks bytes more) here in
            body_is old whole (bytes ++ more)
            ∙ ap (λ (r : Read (List Column × List ℕ)). r >>= records_on old.head old.named old.records old.columns old.stripes old.builder.infos whole) (block_goes old.head old.blocks columns (bytes ++ more) block (rest ++ more) some again)
            ∙ sym (body_is (after_block old made) whole (rest ++ more));
        ends = ends_of bytes rest left;
      };
      shorter = shorter bytes rest left;
    } in
    subst (λ (b : BuildingValue). StepsTo old bytes (after_block old b) rest) (sym push.pushed) steps

pub block_stop : (old : BodyValue) (bytes : List ℕ) (refusal : Refusal) → IsReading old → 0 < old.blocks
    → Refuses refusal (read_block old.builder.length (column_blocks (last_column old.builder.columns)) bytes) → StopsAt (Some old) bytes refusal
block_stop old bytes (refusals.Flawed why field) reading some read = λ whole.
    let blocks = column_blocks (last_column old.builder.columns) in
    let here = subst (λ (n : ℕ). read_block n blocks bytes ≡ Bad why field.now) reading.same_length read in
    body_is old whole bytes ∙ then_bad _ _ why field.now (block_stops old.head old.blocks old.builder.columns bytes why field.now some here)
block_stop old bytes refusals.Length reading some read = absurd read
block_stop old bytes refusals.Memory reading some read = tt

-- ---- the number of records

abbrev after_count : BodyValue → ℕ → BodyValue
after_count old count = record old { records = count; named = false }

count_room : (columns : List Column) (bytes : List ℕ) (count : ℕ) (rest : List ℕ) → read_count columns bytes ≡ Good (count, rest) → length (records_of columns) + count ≤ most_records
unfolding read_count
count_room columns bytes count rest e =
    good_then _ _ _ e (λ field e0 r0.
    let p = passed_is _ _ _ _ _ r0 in
    subst (λ (x : ℕ × List ℕ). length (records_of columns) + x.0 ≤ most_records) p.1 (leb-true (length (records_of columns) + field.0) most_records p.0))

-- the records of the last column come next
named_on : (body : BodyValue) (whole bytes : List ℕ) → body.blocks ≡ 0 → body.named ≡ true
    → read_body body whole bytes ≡ (all_records body.head body.builder.columns bytes >>= columns_on body.head body.columns body.stripes body.builder.infos whole)
named_on body whole bytes none named =
    body_no_blocks body whole bytes none
    ∙ ap (λ (b : Bool). records_on body.head b body.records body.columns body.stripes body.builder.infos whole (body.builder.columns, bytes)) named

counted_on : (body : BodyValue) (whole bytes : List ℕ) → body.blocks ≡ 0 → body.named ≡ false
    → read_body body whole bytes ≡ (more_records body.head body.records body.builder.columns bytes >>= columns_on body.head body.columns body.stripes body.builder.infos whole)
counted_on body whole bytes none named =
    body_no_blocks body whole bytes none
    ∙ ap (λ (b : Bool). records_on body.head b body.records body.columns body.stripes body.builder.infos whole (body.builder.columns, bytes)) named

still_in : (body : BodyValue) → body.named ≡ true → (body.builder.infos ≡ []) ⊎ IsPastColumns body → body.builder.infos ≡ []
still_in body named (inl none) = none
still_in body named (inr past) = let e : true ≡ false = sym named ∙ past.named in absurd cc

pub count_steps : (old : BodyValue) (bytes : List ℕ) (count : ℕ) (rest : List ℕ) → IsReading old → old.blocks ≡ 0 → old.named ≡ true
    → read_count old.builder.columns bytes ≡ Good (count, rest) → StepsTo old bytes (after_count old count) rest
count_steps old bytes count rest reading none named read =
    let columns = old.builder.columns in
    let left = count_rest columns bytes (count, rest) read in
    let room = count_room columns bytes count rest read in
    record {
      reading = record {
        building = reading.building;
        shape = reading.shape;
        same_length = reading.same_length;
        lacking = reading.lacking;
        whole = reading.whole;
        column = λ _. reading.column (inl named);
        some = reading.some;
        room = reading.room;
        read = reading.read;
        few = λ _. omega (arith, room, reading.read);
        stripes = reading.stripes;
        infos = inl (still_in old named reading.infos);
      };
      goes_on = record {
        goes = λ whole more.
            let again = stays_is _ more _ _ (count, rest) (count_stays columns bytes more) read in
            named_on old whole (bytes ++ more) none named
            ∙ ap (λ (r : Read (List Column × List ℕ)). r >>= columns_on old.head old.columns old.stripes old.builder.infos whole) (count_goes old.head columns (bytes ++ more) count (rest ++ more) again)
            ∙ sym (counted_on (after_count old count) whole (rest ++ more) none refl);
        ends = ends_of bytes rest left;
      };
      shorter = shorter bytes rest left;
    }

pub count_stop : (old : BodyValue) (bytes : List ℕ) (refusal : Refusal) → old.blocks ≡ 0 → old.named ≡ true → Refuses refusal (read_count old.builder.columns bytes) → StopsAt (Some old) bytes refusal
count_stop old bytes (refusals.Flawed why field) none named read = λ whole.
    named_on old whole bytes none named ∙ then_bad _ _ why field.now (count_stops old.head old.builder.columns bytes why field.now read)
count_stop old bytes refusals.Length none named read = absurd read
count_stop old bytes refusals.Memory none named read = tt

-- ---- a record

abbrev after_record : BodyValue → BuildingValue → ℕ → BodyValue
after_record old built blocks = record old { builder = built; records = old.records - 1; blocks = blocks; read = old.read + 1 }

in_records : (body : BodyValue) → 0 < body.records → (body.builder.infos ≡ []) ⊎ IsPastColumns body → body.builder.infos ≡ []
in_records body some (inl none) = none
in_records body some (inr past) = absurd (omega (arith, some, past.records))

count-with_record : (columns : List Column) (path : List ℕ) (meta : Meta) → 0 < length columns → length (records_of (with_record columns path meta)) ≡ length (records_of columns) + 1
count-with_record columns path meta some =
    let records = (last_column columns).records in
    let front = records_of (front_of columns) in
    let more = records ++ record_of path meta [] ∷ [] in
    omega (
      arith,
      ap length (records_of-with_last_records columns more),
      length-append front more,
      length-append records (record_of path meta [] ∷ []),
      ap length (records_of-parts columns some),
      length-append front records,
    )

record_reading : (old : BodyValue) (path : List ℕ) (meta : Meta) (blocks : ℕ) → IsReading old → old.named ≡ false → 0 < old.records → blocks ≡ block_count old.head.shape.block_size meta.size
    → IsBuilding (with_columns old.builder (with_record old.builder.columns path meta)) → IsReading (after_record old (with_columns old.builder (with_record old.builder.columns path meta)) blocks)
record_reading old path meta blocks reading named some due building =
    let columns = old.builder.columns in
    let built = with_columns old.builder (with_record columns path meta) in
    let column = reading.column (inr some) in
    let grown = column_of (last_column columns).name ((last_column columns).records ++ record_of path meta [] ∷ []) in
    let newest = newest-with_record columns path meta in
    let none : length (newest_record (with_record columns path meta)).blocks ≡ 0 = ap (λ (r : Record). length r.blocks) newest in
    let size : block_count built.shape.block_size (newest_record (with_record columns path meta)).meta.size ≡ blocks =
    ap (λ (r : Record). block_count built.shape.block_size r.meta.size) newest ∙ ap (λ s. block_count s.block_size meta.size) reading.shape ∙ sym due in
    let some_column = some_column-with columns _ in
    let some_record = some_record-with_record columns path meta in
    record {
      building = building;
      shape = reading.shape;
      same_length = reading.same_length;
      lacking = λ more. record { column = some_column; some = some_record; lacking = omega (arith, none, size) };
      whole = λ no_blocks. all_whole built building some_column some_record (omega (arith, none, size, no_blocks));
      column = λ _. some_column;
      some = omega (arith, same_count columns grown column, reading.some);
      room = omega (arith, same_count columns grown column, reading.room);
      read = omega (arith, reading.read, count-with_record columns path meta column);
      few = λ is. omega (arith, reading.few named, some);
      stripes = reading.stripes;
      infos = inl (in_records old some reading.infos);
    }

pub record_steps : (old : BodyValue) (bytes path : List ℕ) (meta : Meta) (rest : List ℕ) (built : BuildingValue) (blocks : ℕ) → IsReading old → old.blocks ≡ 0 → old.named ≡ false → 0 < old.records
    → read_file old.builder.shape.block_size old.builder.columns bytes ≡ Good ((path, meta), rest) → blocks ≡ block_count old.head.shape.block_size meta.size
    → PushesRecord old.builder path meta built → IsBuilding built → StepsTo old bytes (after_record old built blocks) rest
record_steps old bytes path meta rest built blocks reading none named some read due push building =
    let columns = old.builder.columns in
    let head = old.head in
    let made = with_columns old.builder (with_record columns path meta) in
    let here : read_file head.shape.block_size columns bytes ≡ Good ((path, meta), rest) = subst (λ s. read_file s.block_size columns bytes ≡ Good ((path, meta), rest)) reading.shape read in
    let left = file_rest head.shape.block_size columns bytes ((path, meta), rest) here in
    let steps : StepsTo old bytes (after_record old made blocks) rest = record {
      reading = record_reading old path meta blocks reading named some due (subst IsBuilding push.pushed building);
      goes_on = record {
        goes = λ whole more.
            let again = stays_is _ more _ _ ((path, meta), rest) (file_stays head.shape.block_size columns bytes more) here in
            let after = columns_on head old.columns old.stripes old.builder.infos whole in
            counted_on old whole (bytes ++ more) none named
            ∙ ap (λ (r : Read (List Column × List ℕ)). r >>= after) (record_goes head old.records columns (bytes ++ more) path meta (rest ++ more) some again)
            ∙ then_then _ _ after
            ∙ ap (λ (n : ℕ). more_blocks head n (with_record columns path meta) (rest ++ more) >>= λ x. more_records head (old.records - 1) x.0 x.1 >>= after) (sym due)
            ∙ ap (λ (b : Bool). more_blocks head blocks (with_record columns path meta) (rest ++ more) >>= records_on head b (old.records - 1) old.columns old.stripes old.builder.infos whole) (sym named)
            ∙ sym (body_is (after_record old made blocks) whole (rest ++ more));
        ends = ends_of bytes rest left;
      };
      shorter = shorter bytes rest left;
    } in
    subst (λ (b : BuildingValue). StepsTo old bytes (after_record old b blocks) rest) (sym push.pushed) steps

pub record_stop : (old : BodyValue) (bytes : List ℕ) (refusal : Refusal) → IsReading old → old.blocks ≡ 0 → old.named ≡ false → 0 < old.records
    → Refuses refusal (read_file old.builder.shape.block_size old.builder.columns bytes) → StopsAt (Some old) bytes refusal
record_stop old bytes (refusals.Flawed why field) reading none named some read = λ whole.
    let here = subst (λ s. read_file s.block_size old.builder.columns bytes ≡ Bad why field.now) reading.shape read in
    counted_on old whole bytes none named ∙ then_bad _ _ why field.now (record_stops old.head old.records old.builder.columns bytes why field.now some here)
record_stop old bytes refusals.Length reading none named some read = absurd read
record_stop old bytes refusals.Memory reading none named some read = tt

-- ---- a column

abbrev after_name : BodyValue → BuildingValue → BodyValue
after_name old built = record old { builder = built; columns = old.columns - 1; named = true }

in_columns : (body : BodyValue) → 0 < body.columns → (body.builder.infos ≡ []) ⊎ IsPastColumns body → body.builder.infos ≡ []
in_columns body some (inl none) = none
in_columns body some (inr past) = absurd (omega (arith, some, past.columns))

name_reading : (old : BodyValue) (name : List ℕ) → IsReading old → old.blocks ≡ 0 → 0 < old.columns → IsBuilding (with_columns old.builder (with_column old.builder.columns name))
    → IsReading (after_name old (with_columns old.builder (with_column old.builder.columns name)))
name_reading old name reading none some building =
    let columns = old.builder.columns in
    let longer = length-append columns (column_of name [] ∷ []) in
    let same = records_of-with_column columns name in
    record {
      building = building;
      shape = reading.shape;
      same_length = reading.same_length;
      lacking = λ more. absurd (omega (arith, none, more));
      whole = λ _. All-same (IsWhole old.builder.shape.block_size) _ _ same (reading.whole none);
      column = λ _. omega (arith, longer);
      some = omega (arith, longer);
      room = omega (arith, longer, reading.room, some);
      read = reading.read ∙ sym (ap length same);
      few = λ is. absurd cc;
      stripes = reading.stripes;
      infos = inl (in_columns old some reading.infos);
    }

pub name_steps : (old : BodyValue) (bytes rest : List ℕ) (built : BuildingValue) → IsReading old → old.blocks ≡ 0 → old.named ≡ false → old.records ≡ 0 → 0 < old.columns
    → ReadsName old.builder bytes built rest → IsBuilding built → StepsTo old bytes (after_name old built) rest
name_steps old bytes rest built reading none named bare some read building =
    let columns = old.builder.columns in
    let head = old.head in
    let name = read.name in
    let made = with_columns old.builder (with_column columns name) in
    let left = name_rest columns bytes (name, rest) read.name_is in
    let steps : StepsTo old bytes (after_name old made) rest = record {
      reading = name_reading old name reading none some (subst IsBuilding read.pushed building);
      goes_on = record {
        goes = λ whole more.
            let again = stays_is _ more _ _ (name, rest) (name_stays columns bytes more) read.name_is in
            body_no_records old whole (bytes ++ more) none named bare
            ∙ ap (λ (r : Read (List Column × List ℕ)). r >>= λ all. read_stripes head all.0 old.stripes old.builder.infos whole all.1) (name_goes head old.columns columns (bytes ++ more) name (rest ++ more) some again)
            ∙ then_then _ _ _
            ∙ sym (named_on (after_name old made) whole (rest ++ more) none refl);
        ends = ends_of bytes rest left;
      };
      shorter = shorter bytes rest left;
    } in
    subst (λ (b : BuildingValue). StepsTo old bytes (after_name old b) rest) (sym read.pushed) steps

pub name_stop : (old : BodyValue) (bytes : List ℕ) (refusal : Refusal) → old.blocks ≡ 0 → old.named ≡ false → old.records ≡ 0 → 0 < old.columns
    → Refuses refusal (read_name old.builder.columns bytes) → StopsAt (Some old) bytes refusal
name_stop old bytes (refusals.Flawed why field) none named bare some read = λ whole.
    body_no_records old whole bytes none named bare ∙ then_bad _ _ why field.now (name_stops old.head old.columns old.builder.columns bytes why field.now some read)
name_stop old bytes refusals.Length none named bare some read = absurd read
name_stop old bytes refusals.Memory none named bare some read = tt

-- ---- the information on a stripe

abbrev after_stripe : BodyValue → BuildingValue → BodyValue
after_stripe old built = record old { builder = built; stripes = old.stripes - 1 }

pub past_on : (body : BodyValue) (whole bytes : List ℕ) → IsPastColumns body → read_body body whole bytes ≡ read_stripes body.head body.builder.columns body.stripes body.builder.infos whole bytes
past_on body whole bytes past = body_no_columns body whole bytes past.blocks past.named past.records past.columns

pub length_fits : (body : BodyValue) → IsReading body → body.builder.length ≡ end_of (positions_of (blocks_of body.builder.columns)) → is_length body.head body.builder.columns ≡ true
length_fits body reading fits = (Decides-eqb body.head.length _).1 (sym reading.same_length ∙ fits)

pub length_differs : (body : BodyValue) → IsReading body → ¬ (body.builder.length ≡ end_of (positions_of (blocks_of body.builder.columns))) → is_length body.head body.builder.columns ≡ false
length_differs body reading differs = by (is_length body.head body.builder.columns) refl
  where
    by : (b : Bool) → is_length body.head body.builder.columns ≡ b → is_length body.head body.builder.columns ≡ false
    by true e = absurd (differs (reading.same_length ∙ (Decides-eqb body.head.length _).0 e))
    by false e = e

pub stripe_steps : (old : BodyValue) (bytes : List ℕ) (info : Info) (rest : List ℕ) (built : BuildingValue) → IsReading old → IsPastColumns old → 0 < old.stripes → is_length old.head old.builder.columns ≡ true
    → read_info old.builder.columns old.builder.infos bytes ≡ Good (info, rest) → PushesInfo old.builder info built → IsBuilding built → StepsTo old bytes (after_stripe old built) rest
stripe_steps old bytes info rest built reading past some fits read push building =
    let columns = old.builder.columns in
    let infos = old.builder.infos in
    let made : BuildingValue = record old.builder { infos = infos ++ info ∷ [] } in
    let left = info_rest columns infos bytes (info, rest) read in
    let still : IsPastColumns (after_stripe old made) = record { blocks = past.blocks; named = past.named; records = past.records; columns = past.columns } in
    let steps : StepsTo old bytes (after_stripe old made) rest = record {
      reading = record {
        building = subst IsBuilding push.pushed building;
        shape = reading.shape;
        same_length = reading.same_length;
        lacking = λ more. absurd (omega (arith, past.blocks, more));
        whole = reading.whole;
        column = reading.column;
        some = reading.some;
        room = reading.room;
        read = reading.read;
        few = reading.few;
        stripes = omega (arith, length-append infos (info ∷ []), reading.stripes, some);
        infos = inr still;
      };
      goes_on = record {
        goes = λ whole more.
            let again = stays_is _ more _ _ (info, rest) (info_stays columns infos bytes more) read in
            past_on old whole (bytes ++ more) past ∙ stripe_goes old.head columns old.stripes infos whole (bytes ++ more) info (rest ++ more) some fits again
            ∙ sym (past_on (after_stripe old made) whole (rest ++ more) still);
        ends = ends_of bytes rest left;
      };
      shorter = shorter bytes rest left;
    } in
    subst (λ (b : BuildingValue). StepsTo old bytes (after_stripe old b) rest) (sym push.pushed) steps

pub stripe_stop : (old : BodyValue) (bytes : List ℕ) (refusal : Refusal) → IsPastColumns old → 0 < old.stripes → is_length old.head old.builder.columns ≡ true
    → Refuses refusal (read_info old.builder.columns old.builder.infos bytes) → StopsAt (Some old) bytes refusal
stripe_stop old bytes (refusals.Flawed why field) past some fits read = λ whole.
    past_on old whole bytes past ∙ stripe_stops old.head old.builder.columns old.stripes old.builder.infos whole bytes why field.now some fits read
stripe_stop old bytes refusals.Length past some fits read = absurd read
stripe_stop old bytes refusals.Memory past some fits read = tt

pub length_stop : (body : BodyValue) (bytes : List ℕ) → IsPastColumns body → is_length body.head body.builder.columns ≡ false → StopsAt (Some body) bytes refusals.Length
length_stop body bytes past wrong = λ whole. past_on body whole bytes past ∙ length_stops body.head body.builder.columns body.stripes body.builder.infos whole bytes wrong
