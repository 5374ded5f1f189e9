-- The records of columns by one number, from 0 on through all columns.
use Rattle.std.specs.Prelude.{◌≡◌, ℕ, ◌+◌, ◌<◌, List, [], ◌∷◌, length}
use Rattle.file_table.specs.Table.{Column, column_at, record_at}
use Rattle.hash_index.specs.declared.records.Place.{Place}
use Rattle.hash_index.specs.Duplicates.{Spot, spots_of, spot_in}

-- the numbers of the first records of columns, where the first column's is this
abbrev pub starts_from : ℕ → List Column → List ℕ
starts_from start [] = []
starts_from start (column ∷ columns) = start ∷ starts_from (start + length column.records) columns

-- the record of a number, by its column and its number there
abbrev pub spot_at : List Column → ℕ → ℕ → Spot
spot_at columns d i = record { disk = d; rec = i; kept = record_at columns d i }

-- the record of a number stands at this place
pub record IsPlace (columns : List Column) (number : ℕ) (place : Place) : Type 0 where
  pub disk_within : place.disk < length columns
  pub rec_within : place.rec < length (column_at columns place.disk).records
  pub spot_is : spot_in (spots_of columns) number ≡ spot_at columns place.disk place.rec
