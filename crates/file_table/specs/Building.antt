-- A table while it is built, and what each call of the builder asks and does.
use Rattle.std.specs.Prelude.{◌≡◌, ◌≢◌, ℕ, ◌+◌, ◌-◌, ◌<◌, ◌≤◌, List, [], ◌∷◌, ◌++◌, length, take, slice_index_or, Contains, All, Any, Bool, true, false, Option, None, Some}
use Rattle.disk_model.specs.Path.{IsRecordPath, IsDirectoryOf}
use Rattle.disk_model.specs.declared.meta.Meta.{Meta}
use Rattle.file_table.specs.declared.shape.Shape.{Shape}
use Rattle.file_table.specs.declared.block.Block.{Block}
use Rattle.file_table.specs.declared.info.Info.{Info}
use Rattle.file_table.specs.declared.info.Mark.TheVariants.{Synced}
use Rattle.file_table.specs.declared.fault.BuildFault.{BuildFault}
use Rattle.file_table.specs.declared.fault.BuildFault.TheVariants.{Name, Order, Nested, Range, Repeated, Blocks, Full, Length, Hash, State, Memory}
use Rattle.file_table.specs.Table.{Record, Column, TableValue, block_count, records_of, column_blocks, blocks_of, positions_of, blocks_due, end_of, no_column, no_record}
use Rattle.file_table.specs.Valid.{IsShape, AreColumns, IsWhole, AreInfos, IsHashedAt, IsState, IsLessPath, most_columns, most_records, most_blocks}
use Rattle.disk_model.specs.Name.{IsName}

-- what was pushed so far, of a table that is to have this length
pub record BuildingValue : Type 0 where
  pub shape : Shape
  pub length : ℕ
  pub columns : List Column
  pub infos : List Info

-- nothing was pushed yet
abbrev pub new_building : Shape → ℕ → BuildingValue
new_building shape the_length = record { shape = shape; length = the_length; columns = []; infos = [] }

-- the last column and the last record of a list, and of the last column
abbrev pub last_column : List Column → Column
last_column columns = slice_index_or columns (length columns - 1) no_column

abbrev pub last_record : List Record → Record
last_record records = slice_index_or records (length records - 1) no_record

abbrev pub newest_record : List Column → Record
newest_record columns = last_record (last_column columns).records

-- the columns with another in the place of the last, and with other records in the last
abbrev pub with_last_column : List Column → Column → List Column
with_last_column columns column = take (length columns - 1) columns ++ column ∷ []

abbrev pub with_last_records : List Column → List Record → List Column
with_last_records columns records = with_last_column columns (record { name = (last_column columns).name; records = records })

-- the columns with one more, without records
abbrev pub with_column : List Column → List ℕ → List Column
with_column columns name = columns ++ record { name = name; records = [] } ∷ []

-- the columns with one more record in the last, without blocks
abbrev pub with_record : List Column → List ℕ → Meta → List Column
with_record columns path meta = with_last_records columns ((last_column columns).records ++ record { path = path; meta = meta; blocks = [] } ∷ [])

-- a record with one more block
abbrev pub record_with_block : Record → Block → Record
record_with_block kept block = record { path = kept.path; meta = kept.meta; blocks = kept.blocks ++ block ∷ [] }

-- records with one more block in the last, and columns with one more block in the last record of the last
abbrev pub records_with_block : List Record → Block → List Record
records_with_block records block = take (length records - 1) records ++ record_with_block (last_record records) block ∷ []

abbrev pub with_block : List Column → Block → List Column
with_block columns block = with_last_records columns (records_with_block (last_column columns).records block)

-- the last record, if there is one, lacks a block
pub record LacksBlock (building : BuildingValue) : Type 0 where
  pub some : 0 < length (records_of building.columns)
  pub fewer : let last = last_record (records_of building.columns) in length last.blocks < block_count building.shape.block_size last.meta.size

-- a disk's name is allowed, no column has it, and there is room for one more
pub record IsNewName (columns : List Column) (name : List ℕ) : Type 0 where
  pub allowed : IsName name
  pub new : All (λ (column : Column). column.name ≢ name) columns
  pub room : length columns < most_columns

-- a path is greater than the last one of the column, if there is one
abbrev pub IsGreatest : Column → List ℕ → Type 0
IsGreatest column path = 0 < length column.records → IsLessPath (last_record column.records).path path

-- a record of the column has a directory of this path for its path
abbrev pub IsNested : Column → List ℕ → Type 0
IsNested column path = Any (λ (kept : Record). IsDirectoryOf kept.path path) column.records

-- there is room for one more record of this size
pub record HasRoom (building : BuildingValue) (size : ℕ) : Type 0 where
  pub records : length (records_of building.columns) < most_records
  pub blocks : blocks_due building.shape.block_size (records_of building.columns) + block_count building.shape.block_size size ≤ most_blocks

-- a block of the column stands at this position
abbrev pub Uses : Column → ℕ → Type 0
Uses column position = Contains (positions_of (column_blocks column)) position

-- the length is one more than the greatest position, or 0 where there is none
abbrev pub IsLength : BuildingValue → Type 0
IsLength building = building.length ≡ end_of (positions_of (blocks_of building.columns))

-- the fault that a path would be refused for: it is no record path, else it is out of order, else nested
abbrev pub IsPathFault : List Column → List ℕ → Option BuildFault → Type 0
IsPathFault columns path None =
    IsRecordPath path × IsGreatest (last_column columns) path × ¬ (IsNested (last_column columns) path)
IsPathFault columns path (Some Name) = ¬ (IsRecordPath path)
IsPathFault columns path (Some Order) = IsRecordPath path × ¬ (IsGreatest (last_column columns) path)
IsPathFault columns path (Some Nested) =
    IsRecordPath path × IsGreatest (last_column columns) path × IsNested (last_column columns) path
IsPathFault columns path (Some _) = ⊥

-- the fault that a position would be refused for: it isn't below the length, else the last column has it
abbrev pub IsPositionFault : BuildingValue → ℕ → Option BuildFault → Type 0
IsPositionFault building position None =
    (position < building.length) × ¬ (Uses (last_column building.columns) position)
IsPositionFault building position (Some Range) = building.length ≤ position
IsPositionFault building position (Some Repeated) =
    (position < building.length) × Uses (last_column building.columns) position
IsPositionFault building position (Some _) = ⊥

-- a column was pushed, and why it might be
pub record PushesDisk (old : BuildingValue) (name : List ℕ) (new : BuildingValue) : Type 0 where
  pub whole : ¬ (LacksBlock old)
  pub new_name : IsNewName old.columns name
  pub pushed : new ≡ record old { columns = with_column old.columns name }

-- a record was pushed, and why it might be
pub record PushesRecord (old : BuildingValue) (path : List ℕ) (meta : Meta) (new : BuildingValue) : Type 0 where
  pub whole : ¬ (LacksBlock old)
  pub record_path : IsRecordPath path
  pub order : IsGreatest (last_column old.columns) path
  pub not_nested : ¬ (IsNested (last_column old.columns) path)
  pub room : HasRoom old meta.size
  pub pushed : new ≡ record old { columns = with_record old.columns path meta }

-- a block was pushed, and why it might be
pub record PushesBlock (old : BuildingValue) (block : Block) (new : BuildingValue) : Type 0 where
  pub lacking : LacksBlock old
  pub below : block.position < old.length
  pub unused : ¬ (Uses (last_column old.columns) block.position)
  pub pushed : new ≡ record old { columns = with_block old.columns block }

-- an information was pushed, and why it might be
pub record PushesInfo (old : BuildingValue) (info : Info) (new : BuildingValue) : Type 0 where
  pub whole : ¬ (LacksBlock old)
  pub state : IsState info
  pub room : length old.infos < old.length
  pub hashed : info.mark ≡ Synced → IsHashedAt old.columns (length old.infos)
  pub pushed : new ≡ record old { infos = old.infos ++ info ∷ [] }

-- all was pushed, and this is the table
pub record Finishes (old : BuildingValue) (table : TableValue) : Type 0 where
  pub some_column : 1 ≤ length old.columns
  pub whole : ¬ (LacksBlock old)
  pub infos : length old.infos ≡ old.length
  pub length_is : IsLength old
  pub table_is : table ≡ record { shape = old.shape; columns = old.columns; infos = old.infos }

-- What was pushed so far is well formed: each record but the last has all its blocks, and that has no more.
pub record IsBuilding (building : BuildingValue) : Type 0 where
  pub shape : IsShape building.shape
  pub short : building.length ≤ most_blocks
  pub columns : AreColumns building.length building.shape.block_size building.columns
  pub earlier_whole : All (IsWhole building.shape.block_size) (take (length (records_of building.columns) - 1) (records_of building.columns))
  pub last_within : let last = last_record (records_of building.columns) in length last.blocks ≤ block_count building.shape.block_size last.meta.size
  pub few_infos : length building.infos ≤ building.length
  pub infos : AreInfos building.columns building.infos

-- which faults each call may answer
abbrev pub is_disk_fault : BuildFault → Bool
is_disk_fault Blocks = true
is_disk_fault Name = true
is_disk_fault Memory = true
is_disk_fault _ = false

abbrev pub is_record_fault : BuildFault → Bool
is_record_fault Blocks = true
is_record_fault Name = true
is_record_fault Order = true
is_record_fault Nested = true
is_record_fault Full = true
is_record_fault Memory = true
is_record_fault _ = false

abbrev pub is_block_fault : BuildFault → Bool
is_block_fault Blocks = true
is_block_fault Range = true
is_block_fault Repeated = true
is_block_fault Memory = true
is_block_fault _ = false

abbrev pub is_info_fault : BuildFault → Bool
is_info_fault Blocks = true
is_info_fault State = true
is_info_fault Length = true
is_info_fault Hash = true
is_info_fault Memory = true
is_info_fault _ = false

abbrev pub is_finish_fault : BuildFault → Bool
is_finish_fault Name = true
is_finish_fault Blocks = true
is_finish_fault State = true
is_finish_fault Length = true
is_finish_fault Memory = true
is_finish_fault _ = false
