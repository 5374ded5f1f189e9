-- Columns with more and more at their end.
use Rattle.std.proofs.Common.{◌≡◌, ℕ, suc, ◌-◌, ◌<◌, ◌≤◌, List, [], ◌∷◌, ◌++◌, length, get_or, take, drop, drop-cons, sym, ap, ◌∙◌, arith}
use Rattle.std.proofs.lemmas.List.{append-nil, length-append, take-append-drop, take_at, get_or_at, drop_all}
use Rattle.std.proofs.lemmas.Grind.{flat_map-append}
use Rattle.disk_model.specs.declared.meta.Meta.{Meta}
use Rattle.file_table.specs.declared.block.Block.{Block}
use Rattle.file_table.specs.Table.{Record, Column, no_column, no_record, records_of}
use Rattle.file_table.specs.Building.{last_column, last_record, newest_record, with_last_column, with_last_records, with_column, with_record}

-- all but the last of a list, and the last
abbrev pub front_of : {X : Type 0} → List X → List X
front_of xs = take (length xs - 1) xs

abbrev pub last_of : {X : Type 0} → X → List X → X
last_of d xs = get_or xs (length xs - 1) d

pub front-push : {X : Type 0} (xs : List X) (x : X) → front_of (xs ++ x ∷ []) ≡ xs
front-push xs x = take_at xs (x ∷ []) (length (xs ++ x ∷ []) - 1) (omega (arith, length-append xs (x ∷ [])))

pub last-push : {X : Type 0} (d : X) (xs : List X) (x : X) → last_of d (xs ++ x ∷ []) ≡ x
last-push d xs x = get_or_at xs x [] d (length (xs ++ x ∷ []) - 1) (omega (arith, length-append xs (x ∷ [])))

pub front_and_last : {X : Type 0} (d : X) (xs : List X) → 0 < length xs → front_of xs ++ last_of d xs ∷ [] ≡ xs
front_and_last d xs some =
    let n = length xs - 1 in
    let lt : n < length xs = omega arith in
    let all : length xs ≤ suc n = omega arith in
    let last : drop n xs ≡ get_or xs n d ∷ [] = drop-cons xs n d lt ∙ ap (λ (rest : List _). get_or xs n d ∷ rest) (drop_all (suc n) xs all) in
    ap (λ (rest : List _). take n xs ++ rest) (sym last) ∙ take-append-drop n xs

-- ---- records at the end of the last column

pub last_column-with : (columns : List Column) (column : Column) → last_column (with_last_column columns column) ≡ column
last_column-with columns column = last-push no_column (front_of columns) column

abbrev pub column_of : List ℕ → List Record → Column
column_of name records = record { name = name; records = records }

pub records_of-push : (columns : List Column) (column : Column) → records_of (columns ++ column ∷ []) ≡ records_of columns ++ column.records
records_of-push columns column =
    flat_map-append (λ (c : Column). c.records) columns (column ∷ []) ∙ ap (λ (rs : List Record). records_of columns ++ rs) (append-nil column.records)

pub records_of-with_column : (columns : List Column) (name : List ℕ) → records_of (with_column columns name) ≡ records_of columns
records_of-with_column columns name = records_of-push columns (column_of name []) ∙ append-nil (records_of columns)

-- all records before those of the last column, and those
pub records_of-parts : (columns : List Column) → 0 < length columns → records_of columns ≡ records_of (front_of columns) ++ (last_column columns).records
records_of-parts columns some =
    ap records_of (sym (front_and_last no_column columns some)) ∙ records_of-push (front_of columns) (last_column columns)

pub records_of-with_last_records : (columns : List Column) (records : List Record) → records_of (with_last_records columns records) ≡ records_of (front_of columns) ++ records
records_of-with_last_records columns records = records_of-push (front_of columns) (column_of (last_column columns).name records)

-- ---- blocks at the end of the last record

abbrev pub record_of : List ℕ → Meta → List Block → Record
record_of path meta blocks = record { path = path; meta = meta; blocks = blocks }

pub some_column-with : (columns : List Column) (column : Column) → 0 < length (with_last_column columns column)
some_column-with columns column = omega (arith, length-append (front_of columns) (column ∷ []))

pub newest-with_record : (columns : List Column) (path : List ℕ) (meta : Meta) → newest_record (with_record columns path meta) ≡ record_of path meta []
newest-with_record columns path meta =
    let rs = (last_column columns).records in
    let all = rs ++ record_of path meta [] ∷ [] in
    ap (λ (c : Column). last_record c.records) (last_column-with columns (column_of (last_column columns).name all)) ∙ last-push no_record rs (record_of path meta [])

pub some_record-with_record : (columns : List Column) (path : List ℕ) (meta : Meta) → 0 < length (last_column (with_record columns path meta)).records
some_record-with_record columns path meta =
    let rs = (last_column columns).records in
    let all = rs ++ record_of path meta [] ∷ [] in
    let e : (last_column (with_record columns path meta)).records ≡ all = ap (λ (c : Column). c.records) (last_column-with columns (column_of (last_column columns).name all)) in
    omega (arith, ap length e, length-append rs (record_of path meta [] ∷ []))
