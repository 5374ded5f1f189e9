-- What a window holds of stripes, and what is asked before they are read into it.
use Rattle.std.specs.Prelude.{◌≡◌, ℕ, ◌<◌, ◌≤◌, List, [], length, All, slice_index_or}
use Rattle.disk_model.specs.Vault.{VaultView}
use Rattle.file_table.specs.Table.{TableValue}
use Rattle.stripe_reader.specs.LookedUp.{IsLookedUp}
use Rattle.stripe_reader.specs.Starts.{StartsValue, StartsFit}
use Rattle.stripe_reader.specs.WindowValue.{WindowValue, Fits}

-- there is a folder for each column of a table, and a vault has as many levels as the table
pub record AreDisksOf (table : TableValue) (folders : ℕ) (vault : VaultView) : Type 0 where
  pub columns : folders ≡ length table.columns
  pub levels : vault.levels ≡ table.shape.levels

-- stripes of a table can be read into a window, of so many folders, with files where they stood
pub record CanRead (table : TableValue) (starts : StartsValue) (stripes : List ℕ) (window : WindowValue) (folders : ℕ) : Type 0 where
  pub columns : folders ≡ length table.columns
  pub starts_fit : StartsFit table starts
  pub within : All (λ stripe. stripe < length table.infos) stripes
  pub fits : Fits table window
  pub enough : length stripes ≤ window.room

-- a window keeps of these stripes, column by column, the cell that a table has there
abbrev pub HoldsCells : TableValue → List ℕ → WindowValue → Type 0
HoldsCells table stripes window = (d : ℕ) → d < length table.columns
    → IsLookedUp table d stripes (slice_index_or window.cells d [])

-- a window holds what was read of these stripes of a table, and which cells of the table they have
pub record HoldsStripes (table : TableValue) (stripes : List ℕ) (window : WindowValue) : Type 0 where
  pub fits : Fits table window
  pub count : length stripes ≡ window.count
  pub cells : HoldsCells table stripes window
  pub within : All (λ stripe. stripe < length table.infos) stripes
