-- The numbers of records, and their places.
use Rattle.std.proofs.Common.{◌≡◌, ℕ, ◌+◌, ◌-◌, ◌<◌, ◌≤◌, zero, suc, List, [], ◌∷◌, length, get_or, drop, refl, sym, ap, ◌∙◌, arith}
use Rattle.std.specs.List.Sorted.{IsNonDecreasing}
use Rattle.std.proofs.lemmas.List.{length-append, get_or_append_left, get_or-append_right, at_drop_more}
use Rattle.file_table.specs.Table.{Record, Column, records_of, column_at, record_at, no_column, no_record}
use Rattle.hash_index.specs.Duplicates.{Spot, spots_in, spots_from, spot_in, no_spot}
use Rattle.hash_index.specs.Numbering.{starts_from}

length-spots_in : (disk rec : ℕ) (records : List Record) → length (spots_in disk rec records) ≡ length records
length-spots_in disk rec [] = refl
length-spots_in disk rec (kept ∷ records) = ap suc (length-spots_in disk (rec + 1) records)

pub length-spots_from : (disk : ℕ) (columns : List Column) → length (spots_from disk columns) ≡ length (records_of columns)
length-spots_from disk [] = refl
length-spots_from disk (column ∷ columns) =
    omega (arith, length-append (spots_in disk 0 column.records) (spots_from (disk + 1) columns), length-append column.records (records_of columns), length-spots_in disk 0 column.records, length-spots_from (disk + 1) columns)

-- the record of a number, in a column
spot_of : (disk rec : ℕ) (records : List Record) (k : ℕ) → k < length records → spot_in (spots_in disk rec records) k ≡ (let spot : Spot = record { disk = disk; rec = rec + k; kept = get_or records k no_record } in spot)
spot_of disk rec [] k within = absurd (omega arith)
spot_of disk rec (kept ∷ records) zero within =
    let same : rec ≡ rec + 0 = omega arith in ap (λ (n : ℕ). let spot : Spot = record { disk = disk; rec = n; kept = kept } in spot) same
spot_of disk rec (kept ∷ records) (suc k) within =
    let same : (rec + 1) + k ≡ rec + suc k = omega arith in
    spot_of disk (rec + 1) records k (omega arith) ∙ ap (λ (n : ℕ). let spot : Spot = record { disk = disk; rec = n; kept = get_or records k no_record } in spot) same

-- ---- the first numbers of columns

pub length-starts_from : (start : ℕ) (columns : List Column) → length (starts_from start columns) ≡ length columns
length-starts_from start [] = refl
length-starts_from start (column ∷ columns) = ap suc (length-starts_from (start + length column.records) columns)

starts_after : (start : ℕ) (columns : List Column) (d e : ℕ) → d < length (starts_from start columns) → start ≤ get_or (starts_from start columns) d e
starts_after start [] d e within = absurd (omega arith)
starts_after start (column ∷ columns) zero e within = omega arith
starts_after start (column ∷ columns) (suc d) e within = omega (arith, starts_after (start + length column.records) columns d e (omega arith))

pub starts_rise : (start : ℕ) (columns : List Column) → IsNonDecreasing (starts_from start columns)
starts_rise start [] i j e le within = absurd (omega arith)
starts_rise start (column ∷ columns) zero j e le within = starts_after start (column ∷ columns) j e within
starts_rise start (column ∷ columns) (suc i) zero e le within = absurd (omega arith)
starts_rise start (column ∷ columns) (suc i) (suc j) e le within = starts_rise (start + length column.records) columns i j e (omega arith) (omega arith)

-- the next column's
pub starts_step : (columns : List Column) (d count : ℕ) → d < length columns
    → starts_from count (drop d columns) ≡ count ∷ starts_from (count + length (column_at columns d).records) (drop (d + 1) columns)
starts_step columns d count within = at_drop_more (starts_from count) columns d no_column within

pub records_step : (columns : List Column) (d : ℕ) → d < length columns
    → length (records_of (drop d columns)) ≡ length (column_at columns d).records + length (records_of (drop (d + 1) columns))
records_step columns d within =
    at_drop_more (λ (left : List Column). length (records_of left)) columns d no_column within ∙ length-append (column_at columns d).records (records_of (drop (d + 1) columns))

-- ---- the place of a number

-- the record of a number is that of a number in a column
pub record IsFound (disk : ℕ) (columns : List Column) (k d i : ℕ) : Type 0 where
  pub within : i < length (column_at columns d).records
  pub is : spot_in (spots_from disk columns) k ≡ (let spot : Spot = record { disk = disk + d; rec = i; kept = record_at columns d i } in spot)

-- in the first column
found_first : (disk : ℕ) (column : Column) (columns : List Column) (k i : ℕ) → i ≡ k → k < length column.records → IsFound disk (column ∷ columns) k 0 i
found_first disk column columns k i same within =
    let spot : ℕ → ℕ → Spot = λ d n. record { disk = d; rec = n; kept = get_or column.records n no_record } in
    let long = length-spots_in disk 0 column.records in
    let first : 0 + k ≡ k = omega arith in
    let disk_same : disk ≡ disk + 0 = omega arith in
    record {
      within = omega arith;
      is = get_or_append_left (spots_in disk 0 column.records) (spots_from (disk + 1) columns) no_spot k (omega arith) ∙ spot_of disk 0 column.records k within
          ∙ ap (λ (n : ℕ). let one : Spot = record { disk = disk; rec = n; kept = get_or column.records k no_record } in one) first
          ∙ ap (spot disk) (sym same) ∙ ap (λ (d : ℕ). spot d i) disk_same;
    }

-- in a later one
found_later : (disk : ℕ) (column : Column) (columns : List Column) (k d i : ℕ) → length column.records ≤ k → IsFound (disk + 1) columns (k - length column.records) d i → IsFound disk (column ∷ columns) k (suc d) i
found_later disk column columns k d i behind found =
    let same : (disk + 1) + d ≡ disk + suc d = omega arith in
    record {
      within = found.within;
      is = get_or-append_right (spots_in disk 0 column.records) (spots_from (disk + 1) columns) (length column.records) k no_spot (length-spots_in disk 0 column.records) behind
          ∙ found.is ∙ ap (λ (n : ℕ). let one : Spot = record { disk = n; rec = i; kept = record_at columns d i } in one) same;
    }

pub found_in : (disk start : ℕ) (columns : List Column) (k d i : ℕ) → d < length columns → get_or (starts_from start columns) d 0 + i ≡ start + k
    → (suc d < length columns → start + k < get_or (starts_from start columns) (suc d) 0) → k < length (spots_from disk columns) → IsFound disk columns k d i
found_in disk start [] k d i within at before below = absurd (omega arith)
found_in disk start (column ∷ []) k zero i within at before below =
    let long = length-spots_from disk (column ∷ []) in
    let all = length-append column.records [] in
    found_first disk column [] k i (omega arith) (omega (arith, long, all))
found_in disk start (column ∷ next ∷ columns) k zero i within at before below =
    found_first disk column (next ∷ columns) k i (omega arith) (omega (arith, before (omega arith)))
found_in disk start (column ∷ columns) k (suc d) i within at before below =
    let size = length column.records in
    let count = length-starts_from (start + size) columns in
    let low = starts_after (start + size) columns d 0 (omega arith) in
    let behind : size ≤ k = omega (arith, at, low) in
    let all = length-append (spots_in disk 0 column.records) (spots_from (disk + 1) columns) in
    let first = length-spots_in disk 0 column.records in
    found_later disk column columns k d i behind
    (found_in (disk + 1) (start + size) columns (k - size) d i (omega arith) (omega (arith, at)) (λ more. omega (arith, before (omega arith))) (omega (arith, below, all, first)))
