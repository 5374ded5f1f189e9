-- Columns with more and more at their end, as a builder is given it.
use Rattle.std.specs.Prelude.{◌≡◌, ℕ, ◌+◌, ◌-◌, ◌<◌, ◌≤◌, List, [], ◌∷◌, ◌++◌, length, take, All}
use Rattle.file_table.specs.declared.block.Block.{Block}
use Rattle.file_table.specs.Table.{Record, Column, block_count, records_of}
use Rattle.file_table.specs.Valid.{AreColumns, IsWhole}
use Rattle.file_table.specs.Building.{BuildingValue, last_column, last_record, newest_record, with_last_records}

-- a record with these blocks more, and records with these blocks more in the last
abbrev pub with_more_blocks : Record → List Block → Record
with_more_blocks kept blocks = record { path = kept.path; meta = kept.meta; blocks = kept.blocks ++ blocks }

abbrev pub grown : List Record → List Block → List Record
grown records blocks = take (length records - 1) records ++ with_more_blocks (last_record records) blocks ∷ []

-- the columns with these blocks more in the last record of the last
abbrev pub with_blocks : List Column → List Block → List Column
with_blocks columns blocks = with_last_records columns (grown (last_column columns).records blocks)

-- the columns with these records more in the last
abbrev pub with_records : List Column → List Record → List Column
with_records columns records = with_last_records columns ((last_column columns).records ++ records)

-- what was pushed, with these columns
abbrev pub with_columns : BuildingValue → List Column → BuildingValue
with_columns building columns = record building { columns = columns }

-- the last column has a record, and no information was pushed
pub record TakesBlocks (building : BuildingValue) : Type 0 where
  pub before_infos : building.infos ≡ []
  pub column : 0 < length building.columns
  pub some : 0 < length (last_column building.columns).records

-- there is a column, and no information was pushed
pub record TakesRecords (building : BuildingValue) : Type 0 where
  pub before_infos : building.infos ≡ []
  pub column : 0 < length building.columns

-- these columns may stand in the table that is built, but for the numbers of blocks
abbrev pub MayStand : BuildingValue → List Column → Type 0
MayStand building columns = AreColumns building.length building.shape.block_size columns

-- each of these records has all its blocks
abbrev pub AreWhole : BuildingValue → List Record → Type 0
AreWhole building records = All (IsWhole building.shape.block_size) records

-- the last record lacks at least so many blocks
abbrev pub LacksBlocks : BuildingValue → ℕ → Type 0
LacksBlocks building count = let last = newest_record building.columns in length last.blocks + count ≤ block_count building.shape.block_size last.meta.size

-- these records may be pushed with all their blocks: there is a column, the records before them have all their blocks, and no information was pushed
pub record TakesThese (building : BuildingValue) (records : List Record) : Type 0 where
  pub takes : TakesRecords building
  pub whole_before : AreWhole building (records_of building.columns)
  pub whole : AreWhole building records
  pub may : MayStand building (with_records building.columns records)

-- these columns may be pushed behind those that are there
pub record TakesColumns (building : BuildingValue) (columns : List Column) : Type 0 where
  pub before_infos : building.infos ≡ []
  pub whole_before : AreWhole building (records_of building.columns)
  pub whole : AreWhole building (records_of columns)
  pub may : MayStand building (building.columns ++ columns)
