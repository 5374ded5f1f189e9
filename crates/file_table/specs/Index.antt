-- How the blocks of a column are kept by their positions.
use Rattle.std.specs.Prelude.{◌≡◌, ℕ, ◌+◌, ◌<◌, List, [], ◌∷◌, length, slice_index_or}
use Rattle.std.specs.List.Sorted.{IsSortedByKey, IsPermutation}
use Rattle.std.specs.Ordering.{nat_cmp}
use Rattle.file_table.specs.declared.index.Spot.{Spot}
use Rattle.file_table.specs.Table.{Column, column_blocks, positions_of, column_at}

-- the positions of a list of blocks, each with its place in the list, from a place on
abbrev pub spots_from : ℕ → List ℕ → List Spot
spots_from place [] = []
spots_from place (position ∷ positions) = record { position = position; place = place } ∷ spots_from (place + 1) positions

-- each of these positions is there once, with its place
abbrev pub IsIndex : List ℕ → List Spot → Type 0
IsIndex positions spots = IsPermutation (spots_from 0 positions) spots

-- the positions do not fall
abbrev pub DoRise : List Spot → Type 0
DoRise spots = IsSortedByKey (λ (spot : Spot). spot.position) nat_cmp spots

-- each column has its index
pub record AreIndexes (columns : List Column) (indexes : List (List Spot)) : Type 0 where
  pub count : length indexes ≡ length columns
  pub each : (d : ℕ) → d < length columns → IsIndex (positions_of (column_blocks (column_at columns d))) (slice_index_or indexes d [])
