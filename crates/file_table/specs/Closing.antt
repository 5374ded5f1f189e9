-- Stripes closed one after another: what changes, and what stays.
use Rattle.std.specs.Prelude.{◌≡◌, ◌≢◌, ℕ, List, [], ◌∷◌, length, All, AllPairs, Option, None, Some}
use Rattle.std.specs.Option.{option_map}
use Rattle.block_hash.specs.declared.Digest16.{Digest16}
use Rattle.file_table.specs.declared.info.Info.{Info}
use Rattle.file_table.specs.Table.{Column, TableValue, column_at, record_in, positions_of}
use Rattle.file_table.specs.Cells.{CellView, StripeView, cell_in, seen_with, closed_at}

-- a stripe to close: the hashes that its cells get, in the order of the columns, and what is known of it then
pub record Closing : Type 0 where
  pub stripe : ℕ
  pub hashes : List (Option Digest16)
  pub info : Info

-- the table with these stripes closed, one after another
abbrev pub closed : List Closing → TableValue → TableValue
closed [] table = table
closed (closing ∷ closings) table = closed closings (closed_at closing.stripe closing.hashes closing.info table)

-- no stripe is closed twice
abbrev pub AreApart : List Closing → Type 0
AreApart closings = AllPairs (λ (earlier later : Closing). earlier.stripe ≢ later.stripe) closings

-- a stripe is none of those that are closed
abbrev pub IsNoneOf : ℕ → List Closing → Type 0
IsNoneOf stripe closings = All (λ (closing : Closing). closing.stripe ≢ stripe) closings

-- what is seen of a cell that gets this hash, or none, and of the cells of a stripe that get these
abbrev pub cell_given : Option Digest16 → Option CellView → Option CellView
cell_given None seen = seen
cell_given (Some hash) seen = option_map (seen_with hash) seen

abbrev pub cells_given : List (Option Digest16) → List (Option CellView) → List (Option CellView)
cells_given hashes [] = []
cells_given [] (seen ∷ cells) = seen ∷ cells
cells_given (hash ∷ hashes) (seen ∷ cells) = cell_given hash seen ∷ cells_given hashes cells

-- what is seen of a stripe after it was closed
abbrev pub closed_view : Closing → StripeView → StripeView
closed_view closing seen = record { info = closing.info; cells = cells_given closing.hashes seen.cells }

-- a column has the same name and the same files, and their blocks stand at the same positions. Hashes may differ.
pub record HasSameFiles (old new : Column) : Type 0 where
  pub name : new.name ≡ old.name
  pub count : length new.records ≡ length old.records
  pub path : (i : ℕ) → (record_in new i).path ≡ (record_in old i).path
  pub meta : (i : ℕ) → (record_in new i).meta ≡ (record_in old i).meta
  pub positions : (i : ℕ) → positions_of (record_in new i).blocks ≡ positions_of (record_in old i).blocks
  pub cell : (position : ℕ) → cell_in new position ≡ cell_in old position

-- a table differs in hashes and in what is known of stripes alone
pub record DiffersInHashesAndInfos (old new : TableValue) : Type 0 where
  pub shape : new.shape ≡ old.shape
  pub columns : length new.columns ≡ length old.columns
  pub stripes : length new.infos ≡ length old.infos
  pub files : (d : ℕ) → HasSameFiles (column_at old.columns d) (column_at new.columns d)
