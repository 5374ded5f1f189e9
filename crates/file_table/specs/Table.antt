-- What is kept of an array between runs: the files of each column, the positions of their blocks, and what is known of each stripe.
-- Sizes are in bytes, times in seconds since 1970.
use Rattle.std.specs.Prelude.{◌≡◌, ℕ, ◌+◌, ◌/◌, ◌%◌, ◌<◌, ◌==◌, List, [], ◌∷◌, length, map, max, sum_by, slice_index_or, slice_set, if◌then◌else◌, pos, Bool, true, false, None, Some}
use Rattle.std.specs.List.{flat_map}
use Rattle.disk_model.specs.declared.meta.Meta.{Meta}
use Rattle.block_hash.specs.declared.Digest16.{Digest16}
use Rattle.file_table.specs.declared.shape.Shape.{Shape}
use Rattle.file_table.specs.declared.block.Block.{Block}
use Rattle.file_table.specs.declared.info.Info.{Info}
use Rattle.file_table.specs.declared.info.Mark.{Mark}
use Rattle.file_table.specs.declared.info.Mark.TheVariants.{Pending, Synced}

-- a file as of the last sync, with its blocks in order
pub record Record : Type 0 where
  pub path : List ℕ
  pub meta : Meta
  pub blocks : List Block

-- a data disk: its name, and its records in byte order of path
pub record Column : Type 0 where
  pub name : List ℕ
  pub records : List Record

-- a table: its shape, its columns in order, and the information on each stripe from 0 on
pub record TableValue : Type 0 where
  pub shape : Shape
  pub columns : List Column
  pub infos : List Info

-- how many blocks of a size hold this many bytes
abbrev pub block_count : ℕ → ℕ → ℕ
block_count block_size size = size / block_size + (if size % block_size == 0 then 0 else 1)

-- all records, and all blocks, column by column
abbrev pub records_of : List Column → List Record
records_of columns = flat_map (λ (column : Column). column.records) columns

abbrev pub column_blocks : Column → List Block
column_blocks column = flat_map (λ (kept : Record). kept.blocks) column.records

abbrev pub blocks_of : List Column → List Block
blocks_of columns = flat_map column_blocks columns

-- the positions of blocks
abbrev pub positions_of : List Block → List ℕ
positions_of blocks = map (λ (block : Block). block.position) blocks

-- how many blocks the sizes of these records ask for
abbrev pub blocks_due : ℕ → List Record → ℕ
blocks_due block_size records = sum_by (λ (kept : Record). block_count block_size kept.meta.size) records

-- one more than the greatest of these positions, 0 where there is none
abbrev pub end_of : List ℕ → ℕ
end_of [] = 0
end_of (position ∷ positions) = max (position + 1) (end_of positions)

-- what stands for a column, a record, a block or an information that is not there
abbrev pub no_column : Column
no_column = record { name = []; records = [] }

abbrev pub no_meta : Meta
no_meta = record { size = 0; stamp = record { seconds = pos 0; nanos = 0 } }

abbrev pub no_record : Record
no_record = record { path = []; meta = no_meta; blocks = [] }

abbrev pub no_block : Block
no_block = record { position = 0; hash = None }

abbrev pub no_info : Info
no_info = record { mark = Pending; last = 0; bad = false; fresh = false }

-- the column of a number, the record of a number in it, the block of a number of that, and the information on a stripe
abbrev pub column_at : List Column → ℕ → Column
column_at columns d = slice_index_or columns d no_column

abbrev pub record_in : Column → ℕ → Record
record_in column i = slice_index_or column.records i no_record

abbrev pub record_at : List Column → ℕ → ℕ → Record
record_at columns d i = record_in (column_at columns d) i

abbrev pub block_in : Record → ℕ → Block
block_in kept index = slice_index_or kept.blocks index no_block

abbrev pub info_at : List Info → ℕ → Info
info_at infos stripe = slice_index_or infos stripe no_info

-- the records of the column of a number
abbrev pub records_in : TableValue → ℕ → List Record
records_in table d = (column_at table.columns d).records

-- a stripe is synced, by its mark
abbrev pub is_synced_mark : Mark → Bool
is_synced_mark Synced = true
is_synced_mark Pending = false

-- the record of this number has this path
pub record HasPath (column : Column) (i : ℕ) (path : List ℕ) : Type 0 where
  pub within : i < length column.records
  pub path_is : (record_in column i).path ≡ path

-- the block of this number stands at this position
pub record IsBlockAt (blocks : List Block) (position index : ℕ) : Type 0 where
  pub within : index < length blocks
  pub position_is : (slice_index_or blocks index no_block).position ≡ position

-- the block of this number of the record of this number stands at this position
pub record IsAt (column : Column) (position i index : ℕ) : Type 0 where
  pub within : i < length column.records
  pub index_within : index < length (record_in column i).blocks
  pub position_is : (block_in (record_in column i) index).position ≡ position

-- a record with this hash of its block of a number, and columns with that record in the place of what it was
abbrev pub record_with_hash : Record → ℕ → Digest16 → Record
record_with_hash kept index hash = record { path = kept.path; meta = kept.meta; blocks = slice_set kept.blocks index (record { position = (block_in kept index).position; hash = Some hash }) }

abbrev pub column_with_hash : Column → ℕ → ℕ → Digest16 → Column
column_with_hash column i index hash = record { name = column.name; records = slice_set column.records i (record_with_hash (record_in column i) index hash) }

abbrev pub with_hash : List Column → ℕ → ℕ → ℕ → Digest16 → List Column
with_hash columns d i index hash = slice_set columns d (column_with_hash (column_at columns d) i index hash)
