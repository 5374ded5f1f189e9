-- The array of a configuration: its table while there is no content, and whether content is of it.
use Rattle.std.specs.Prelude.{◌≡◌, ◌≢◌, ℕ, ◌<◌, List, [], length, map, slice_get}
use Rattle.block_hash.specs.declared.Kind.TheVariants.{Md5}
use Rattle.file_table.specs.Table.{Column, TableValue}
use Rattle.array_setup.specs.Setup.{SetupValue}
use Rattle.array_setup.specs.declared.setup.Disk.{Disk}
use Rattle.snap_top.specs.declared.end.Difference.{Difference}
use Rattle.snap_top.specs.declared.end.Difference.TheVariants.{BlockSize, Levels, DiskName}

-- the names of the disks, of a configuration and of a table
abbrev pub disk_names : SetupValue → List (List ℕ)
disk_names setup = map (λ (disk : Disk). disk.name) setup.disks

abbrev pub column_names : TableValue → List (List ℕ)
column_names table = map (λ (column : Column). column.name) table.columns

-- the table of an array without content: no files; hashes are MD5 behind this seed
abbrev pub empty_column : Disk → Column
empty_column disk = record { name = disk.name; records = [] }

abbrev pub empty_table : SetupValue → List ℕ → TableValue
empty_table setup seed = record {
  shape = record { block_size = setup.block_size; levels = length setup.parts; kind = Md5; seed = seed };
  columns = map empty_column setup.disks;
  infos = [];
}

-- content and configuration have one block size, one number of levels, and the same names of disks
pub record Matches (setup : SetupValue) (table : TableValue) : Type 0 where
  pub block_size : table.shape.block_size ≡ setup.block_size
  pub levels : table.shape.levels ≡ length setup.parts
  pub names : column_names table ≡ disk_names setup

-- the first place in which two lists of names differ
pub record DiffersFirst (content configuration : List (List ℕ)) (column : ℕ) : Type 0 where
  pub before : (k : ℕ) → k < column → slice_get content k ≡ slice_get configuration k
  pub here : slice_get content column ≢ slice_get configuration column

-- they differ in the block size, else in the number of levels, else in the name of this disk first
abbrev pub DiffersIn : SetupValue → TableValue → Difference → Type 0
DiffersIn setup table (BlockSize content configuration) =
    (content ≡ table.shape.block_size) × (configuration ≡ setup.block_size) × (content ≢ configuration)
DiffersIn setup table (Levels content configuration) =
    (table.shape.block_size ≡ setup.block_size) × (content ≡ table.shape.levels) × (configuration ≡ length setup.parts) × (content ≢ configuration)
DiffersIn setup table (DiskName column) =
    (table.shape.block_size ≡ setup.block_size) × (table.shape.levels ≡ length setup.parts) × DiffersFirst (column_names table) (disk_names setup) column
