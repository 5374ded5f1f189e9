-- Which cells of a table stand at the stripes of a window, looked up before these are read.
use Rattle.std.specs.Prelude.{◌≡◌, ℕ, ◌<◌, ◌≤◌, List, [], length, get_or, Option, None, IfSome, slice_index_or}
use Rattle.file_table.specs.Cells.{cell_in}
use Rattle.file_table.specs.Table.{TableValue, column_at}
use Rattle.file_table.specs.declared.block.Cell.{Cell}

-- the first of these are the cells of a column at these stripes
abbrev pub IsLookedUp : TableValue → ℕ → List ℕ → List (Option Cell) → Type 0
IsLookedUp table d stripes cells = (i : ℕ) → i < length stripes
    → slice_index_or cells i None ≡ cell_in (column_at table.columns d) (get_or stripes i 0)

-- so it is of each column
pub record AreLookedUp (table : TableValue) (stripes : List ℕ) (cells : List (List (Option Cell))) : Type 0 where
  pub as_many : length cells ≡ length table.columns
  pub enough : (d : ℕ) → d < length table.columns → length stripes ≤ length (slice_index_or cells d [])
  pub each : (d : ℕ) → d < length table.columns → IsLookedUp table d stripes (slice_index_or cells d [])

-- a cell that is there is of one of the column's records
abbrev pub IsOfRecord : TableValue → ℕ → Option Cell → Type 0
IsOfRecord table d found = IfSome found (λ (cell : Cell). cell.rec < length (column_at table.columns d).records)
