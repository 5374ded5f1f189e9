-- The pairs of a table are of its records, and not too many to be counted.
use Rattle.std.proofs.Common.{◌≡◌, ℕ, ◌+◌, ◌*◌, ◌^◌, ◌<◌, ◌≤◌, suc, List, [], ◌∷◌, length, map, All, Bool, true, false, cond, subst, arith}
use Rattle.std.specs.List.{filter}
use Rattle.std.proofs.lemmas.List.{length-append, length-map}
use Rattle.std.proofs.lemmas.List.Elements.{All-append, All-cons, All-filter, All-head, All-map, All-nil, All-tail, All-weaker}
use Rattle.file_table.specs.Table.{Record, Column, column_at}
use Rattle.file_table.specs.Valid.{most_records}
use Rattle.hash_index.specs.Duplicates.{IsPairOf, Spot, pair_of, pairs_among, same_spot, spots_from, spots_in}

-- ---- records that are there

-- a record of these columns, which are numbered from a number on
pub record IsSpotOf (disk : ℕ) (columns : List Column) (spot : Spot) : Type 0 where
  pub column : ℕ
  pub disk_is : spot.disk ≡ disk + column
  pub disk_within : column < length columns
  pub rec_within : spot.rec < length (column_at columns column).records

first_spots : (disk rec : ℕ) (column : Column) (columns : List Column) (records : List Record) → rec + length records ≡ length column.records
    → All (IsSpotOf disk (column ∷ columns)) (spots_in disk rec records)
first_spots disk rec column columns [] count = All-nil (IsSpotOf disk (column ∷ columns))
first_spots disk rec column columns (kept ∷ records) count =
    let spot : Spot = record { disk = disk; rec = rec; kept = kept } in
    All-cons (IsSpotOf disk (column ∷ columns)) spot (spots_in disk (rec + 1) records)
    (record { column = 0; disk_is = omega arith; disk_within = omega arith; rec_within = omega (arith, count) })
    (first_spots disk (rec + 1) column columns records (omega (arith, count)))

later_spot : (disk : ℕ) (column : Column) (columns : List Column) (spot : Spot) → IsSpotOf (disk + 1) columns spot → IsSpotOf disk (column ∷ columns) spot
later_spot disk column columns spot is = record {
  column = suc is.column;
  disk_is = omega (arith, is.disk_is);
  disk_within = omega (arith, is.disk_within);
  rec_within = is.rec_within;
}

all_spots : (disk : ℕ) (columns : List Column) → All (IsSpotOf disk columns) (spots_from disk columns)
all_spots disk [] = All-nil (IsSpotOf disk [])
all_spots disk (column ∷ columns) =
    All-append (IsSpotOf disk (column ∷ columns)) (spots_in disk 0 column.records) (spots_from (disk + 1) columns)
    (first_spots disk 0 column columns column.records (omega arith))
    (All-weaker (IsSpotOf (disk + 1) columns) (IsSpotOf disk (column ∷ columns)) (later_spot disk column columns) (spots_from (disk + 1) columns) (all_spots (disk + 1) columns))

-- ---- pairs of them

pair_there : (columns : List Column) (one other : Spot) → IsSpotOf 0 columns one → IsSpotOf 0 columns other → IsPairOf columns (pair_of one other)
pair_there columns one other is its =
    let disk : is.column ≡ one.disk = omega (arith, is.disk_is) in
    let other_disk : its.column ≡ other.disk = omega (arith, its.disk_is) in
    record {
      disk = omega (arith, disk, is.disk_within);
      rec = subst (λ (d : ℕ). one.rec < length (column_at columns d).records) disk is.rec_within;
      other_disk = omega (arith, other_disk, its.disk_within);
      other_rec = subst (λ (d : ℕ). other.rec < length (column_at columns d).records) other_disk its.rec_within;
    }

pairs_there : (columns : List Column) (spots : List Spot) → All (IsSpotOf 0 columns) spots → All (IsPairOf columns) (pairs_among spots)
pairs_there columns [] all = All-nil (IsPairOf columns)
pairs_there columns (one ∷ later) all =
    let first = All-head (IsSpotOf 0 columns) one later all in
    let rest = All-tail (IsSpotOf 0 columns) one later all in
    let same : List Spot = filter (same_spot one) later in
    All-append (IsPairOf columns) (map (pair_of one) same) (pairs_among later)
    (All-map (IsPairOf columns) (pair_of one) same
    (All-weaker (IsSpotOf 0 columns) (λ (other : Spot). IsPairOf columns (pair_of one other)) (λ other is. pair_there columns one other first is) same
    (All-filter (same_spot one) (IsSpotOf 0 columns) later rest)))
    (pairs_there columns later rest)

pub pairs_within : (columns : List Column) → All (IsPairOf columns) (pairs_among (spots_from 0 columns))
pairs_within columns = pairs_there columns (spots_from 0 columns) (all_spots 0 columns)

-- ---- how many they are

few_more : {X : Type 0} (passes : Bool) (x : X) (kept : List X) (n : ℕ) → length kept ≤ n → length (cond passes (x ∷ kept) kept) ≤ suc n
few_more true x kept n few = omega (arith, few)
few_more false x kept n few = omega (arith, few)

few_pass : {X : Type 0} (test : X → Bool) (xs : List X) → length (filter test xs) ≤ length xs
few_pass test [] = omega arith
few_pass test (x ∷ xs) = few_more (test x) x (filter test xs) (length xs) (few_pass test xs)

few_among : (most : ℕ) (spots : List Spot) → length spots ≤ most → length (pairs_among spots) ≤ most * length spots
few_among most [] few = omega arith
few_among most (one ∷ later) few =
    let same : List Spot = filter (same_spot one) later in
    let rest = few_among most later (omega (arith, few)) in
    let count = length-append (map (pair_of one) same) (pairs_among later) in
    let mapped = length-map same (pair_of one) in
    let passed = few_pass (same_spot one) later in
    let product : most * suc (length later) ≡ most + most * length later = omega arith in
    omega (arith, rest, count, mapped, passed, product, few)

pub few_pairs : (spots : List Spot) → length spots ≤ most_records → length (pairs_among spots) ≤ 2 ^ 48
few_pairs spots few = omega (arith, few_among 16777216 spots few, few)
