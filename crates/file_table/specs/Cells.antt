-- Which block of a column stands at a position, and what is seen of a stripe.
use Rattle.std.specs.Prelude.{◌≡◌, ℕ, ◌+◌, ◌<◌, ◌==◌, List, [], ◌∷◌, length, map, slice_index_or, slice_set, if◌then◌else◌, Bool, Option, None, Some, is_some}
use Rattle.std.specs.List.{list_any}
use Rattle.std.specs.Option.{option_map}
use Rattle.disk_model.specs.declared.meta.Meta.{Meta}
use Rattle.block_hash.specs.declared.Digest16.{Digest16}
use Rattle.file_table.specs.declared.block.Block.{Block}
use Rattle.file_table.specs.declared.block.Cell.{Cell}
use Rattle.file_table.specs.declared.info.Info.{Info}
use Rattle.file_table.specs.Table.{Record, Column, TableValue, column_blocks, column_with_hash, record_in, block_in, info_at, no_block}

-- the number of the first of these blocks that stands at a position
abbrev pub block_at : List Block → ℕ → Option ℕ
block_at [] position = None
block_at (block ∷ blocks) position = if block.position == position then Some 0 else option_map (λ (index : ℕ). index + 1) (block_at blocks position)

-- the cell of a record after one more
abbrev pub one_later : Cell → Cell
one_later cell = record { rec = cell.rec + 1; index = cell.index }

-- the cell in the first record, if it has one, else that in a later one
abbrev pub cell_or : Option ℕ → Option Cell → Option Cell
cell_or (Some index) later = Some (record { rec = 0; index = index })
cell_or None later = option_map one_later later

abbrev pub cell_among : List Record → ℕ → Option Cell
cell_among [] position = None
cell_among (kept ∷ records) position = cell_or (block_at kept.blocks position) (cell_among records position)

-- the cell of a column at a position: the record, and the block of it, that stands there
abbrev pub cell_in : Column → ℕ → Option Cell
cell_in column position = cell_among column.records position

-- some column has a block at a stripe
abbrev pub holds_block : List Column → ℕ → Bool
holds_block columns stripe = list_any (λ column. is_some (cell_in column stripe)) columns

-- the block of a column at a place in the list of all its blocks is this cell's
pub record IsCellOf (column : Column) (place : ℕ) (cell : Cell) : Type 0 where
  pub within : cell.rec < length column.records
  pub index_within : cell.index < length (record_in column cell.rec).blocks
  pub block_is : block_in (record_in column cell.rec) cell.index ≡ slice_index_or (column_blocks column) place no_block

-- what is seen of a cell: the file that it is of, as recorded, the number of the block in the file, and the block's recorded hash
pub record CellView : Type 0 where
  pub path : List ℕ
  pub meta : Meta
  pub index : ℕ
  pub hash : Option Digest16

abbrev pub cell_seen : Column → Cell → CellView
cell_seen column cell =
    let kept = record_in column cell.rec in
    record { path = kept.path; meta = kept.meta; index = cell.index; hash = (block_in kept cell.index).hash }

-- the same with this hash
abbrev pub seen_with : Digest16 → CellView → CellView
seen_with hash seen = record seen { hash = Some hash }

-- what is seen of the cell of a column at a stripe, if it has one
abbrev pub cell_view : Column → ℕ → Option CellView
cell_view column stripe = option_map (cell_seen column) (cell_in column stripe)

-- what is seen of a stripe: what is known of it, and its cells, column by column
pub record StripeView : Type 0 where
  pub info : Info
  pub cells : List (Option CellView)

abbrev pub stripe_view : TableValue → ℕ → StripeView
stripe_view table stripe = record {
  info = info_at table.infos stripe;
  cells = map (λ (column : Column). cell_view column stripe) table.columns;
}

-- a column whose cell, if there is one, gets a hash
abbrev pub with_cell_hashed : Column → Digest16 → Option Cell → Column
with_cell_hashed column hash None = column
with_cell_hashed column hash (Some cell) = column_with_hash column cell.rec cell.index hash

-- a column whose cell at a stripe gets the hash that is given, if one is
abbrev pub column_closed : ℕ → Option Digest16 → Column → Column
column_closed stripe None column = column
column_closed stripe (Some hash) column = with_cell_hashed column hash (cell_in column stripe)

-- columns whose cells at a stripe get these hashes, in the order of the columns
abbrev pub columns_closed : ℕ → List (Option Digest16) → List Column → List Column
columns_closed stripe hashes [] = []
columns_closed stripe [] (column ∷ columns) = column ∷ columns
columns_closed stripe (hash ∷ hashes) (column ∷ columns) = column_closed stripe hash column ∷ columns_closed stripe hashes columns

-- a table with a stripe closed: its cells get these hashes, and this is known of it
abbrev pub closed_at : ℕ → List (Option Digest16) → Info → TableValue → TableValue
closed_at stripe hashes info table = record table {
  columns = columns_closed stripe hashes table.columns;
  infos = slice_set table.infos stripe info;
}
