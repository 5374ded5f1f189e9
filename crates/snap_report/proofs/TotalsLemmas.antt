-- The records of the first columns, and those of all.
use Rattle.std.proofs.Common.{◌≡◌, ℕ, ◌+◌, ◌<◌, ◌≤◌, List, [], ◌++◌, length, take, drop, arith, sym, ◌∙◌, ap, length-append}
use Rattle.std.proofs.lemmas.List.{take-append-drop, take_more, flat_map_more}
use Rattle.std.proofs.lemmas.Grind.{flat_map-append}
use Rattle.std.specs.List.{flat_map}
use Rattle.file_table.specs.Table.{Column, Record, records_of, column_at, no_column}

-- those of the first columns and of the next one are among all
pub records_within : (columns : List Column) (d : ℕ) → d < length columns → length (records_of (take d columns)) + length (column_at columns d).records ≤ length (records_of columns)
records_within columns d within =
    let records : Column → List Record = λ column. column.records in
    let more : flat_map records (take (d + 1) columns) ≡ flat_map records (take d columns) ++ (column_at columns d).records =
    ap (flat_map records) (take_more columns d no_column within) ∙ sym (flat_map_more records [] (take d columns) (column_at columns d)) in
    let all : flat_map records columns ≡ flat_map records (take (d + 1) columns) ++ flat_map records (drop (d + 1) columns) =
    ap (flat_map records) (sym (take-append-drop (d + 1) columns)) ∙ flat_map-append records (take (d + 1) columns) (drop (d + 1) columns) in
    omega (arith, ap length more, ap length all, length-append {A = Record})
