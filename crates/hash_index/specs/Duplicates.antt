-- The duplicates of a table: which of its files hold the same, by the hashes of their blocks.
-- Columns, and the records of each, count from 0.
use Rattle.std.specs.Prelude.{ℕ, ◌+◌, ◌<◌, ◌==◌, ◌&&◌, List, [], ◌∷◌, ◌++◌, length, map, not, slice_index_or, bytes_eq, Bool, true, false, Option, Some}
use Rattle.std.specs.List.{filter}
use Rattle.block_hash.specs.declared.Digest16.{Digest16}
use Rattle.file_table.specs.declared.block.Block.{Block}
use Rattle.file_table.specs.Table.{Record, Column, TableValue, column_at, no_record}
use Rattle.hash_index.specs.declared.pair.Pair.{Pair}

-- the hashes of blocks, in order
abbrev pub hashes_of : List Block → List (Option Digest16)
hashes_of blocks = map (λ (block : Block). block.hash) blocks

-- both hashes are there, and they are equal
abbrev pub same_hash : Option Digest16 → Option Digest16 → Bool
same_hash (Some one) (Some other) = bytes_eq one.0 other.0
same_hash _ _ = false

-- so many are the one as the other, all are there, and they are equal place by place
abbrev pub same_hashes : List (Option Digest16) → List (Option Digest16) → Bool
same_hashes [] [] = true
same_hashes (one ∷ ones) (other ∷ others) = same_hash one other && same_hashes ones others
same_hashes _ _ = false

-- two records hold the same: their sizes are equal and not 0, and all their blocks have hashes, which are equal
abbrev pub is_same : Record → Record → Bool
is_same one other =
    (not (one.meta.size == 0) && one.meta.size == other.meta.size) && same_hashes (hashes_of one.blocks) (hashes_of other.blocks)

-- a record of a table, with the number of its column and its number there
pub record Spot : Type 0 where
  pub disk : ℕ
  pub rec : ℕ
  pub kept : Record

-- records of a column, numbered from a number on
abbrev pub spots_in : ℕ → ℕ → List Record → List Spot
spots_in disk rec [] = []
spots_in disk rec (kept ∷ records) = record { disk = disk; rec = rec; kept = kept } ∷ spots_in disk (rec + 1) records

-- the records of columns, column by column; the columns are numbered from a number on
abbrev pub spots_from : ℕ → List Column → List Spot
spots_from disk [] = []
spots_from disk (column ∷ columns) = spots_in disk 0 column.records ++ spots_from (disk + 1) columns

abbrev pub spots_of : List Column → List Spot
spots_of columns = spots_from 0 columns

-- what stands for a record that is not there
abbrev pub no_spot : Spot
no_spot = record { disk = 0; rec = 0; kept = no_record }

abbrev pub spot_in : List Spot → ℕ → Spot
spot_in spots number = slice_index_or spots number no_spot

abbrev pub kept_in : List Spot → ℕ → Record
kept_in spots number = (spot_in spots number).kept

-- a record is the same as another of the table
abbrev pub same_spot : Spot → Spot → Bool
same_spot one other = is_same one.kept other.kept

abbrev pub pair_of : Spot → Spot → Pair
pair_of one other = record { disk = one.disk; rec = one.rec; other_disk = other.disk; other_rec = other.rec }

-- each record with each later one that is the same: by the first of them, then by the other
abbrev pub pairs_among : List Spot → List Pair
pairs_among [] = []
pairs_among (one ∷ later) = map (pair_of one) (filter (same_spot one) later) ++ pairs_among later

-- the duplicates of a table, in their order
abbrev pub pairs_of : TableValue → List Pair
pairs_of table = pairs_among (spots_of table.columns)

-- the two records of a pair are there
pub record IsPairOf (columns : List Column) (pair : Pair) : Type 0 where
  pub disk : pair.disk < length columns
  pub rec : pair.rec < length (column_at columns pair.disk).records
  pub other_disk : pair.other_disk < length columns
  pub other_rec : pair.other_rec < length (column_at columns pair.other_disk).records
