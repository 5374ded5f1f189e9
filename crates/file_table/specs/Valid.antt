-- When a table is valid.
use Rattle.std.specs.Prelude.{◌≡◌, ◌≢◌, ℕ, ◌%◌, ◌^◌, ◌<◌, ◌≤◌, List, length, false, IsSome, IfSome, All, AllPairs, FitsSigned}
use Rattle.std.specs.Int.{w64}
use Rattle.std.specs.Ordering.{nat_cmp}
use Rattle.std.specs.Cmp.Lexicographic.{slice_cmp}
use Rattle.std.specs.declared.cmp.Ordering.TheVariants.{Less}
use Rattle.disk_model.specs.Name.{IsName}
use Rattle.disk_model.specs.Path.{IsRecordPath, IsDirectoryOf}
use Rattle.disk_model.specs.declared.meta.Meta.{Meta}
use Rattle.block_hash.specs.declared.Digest16.{Digest16}
use Rattle.file_table.specs.declared.limits.TheConstants.{MOST_COLUMNS, MOST_LEVELS, MOST_RECORDS, MOST_BLOCKS, LEAST_BLOCK_SIZE, MOST_BLOCK_SIZE}
use Rattle.file_table.specs.declared.shape.Shape.{Shape}
use Rattle.file_table.specs.declared.block.Block.{Block}
use Rattle.file_table.specs.declared.info.Info.{Info}
use Rattle.file_table.specs.declared.info.Mark.TheVariants.{Pending, Synced}
use Rattle.file_table.specs.Table.{Record, Column, TableValue, block_count, records_of, column_blocks, blocks_of, positions_of, blocks_due, end_of, info_at}

-- the limits of a table: data disks, files, and blocks of one column or of all together
abbrev pub most_columns : ℕ
most_columns = MOST_COLUMNS

abbrev pub most_records : ℕ
most_records = MOST_RECORDS

abbrev pub most_blocks : ℕ
most_blocks = MOST_BLOCKS

-- the bytes of a digest or a seed
pub record IsSixteenBytes (bytes : List ℕ) : Type 0 where
  pub sixteen : length bytes ≡ 16
  pub in_range : All (λ byte. byte < 256) bytes

-- a block size: 1 to 4,096 KiB
pub record IsBlockSize (bytes : ℕ) : Type 0 where
  pub least : LEAST_BLOCK_SIZE ≤ bytes
  pub most : bytes ≤ MOST_BLOCK_SIZE
  pub kibibytes : bytes % LEAST_BLOCK_SIZE ≡ 0

-- a number of parity files
pub record IsLevelCount (levels : ℕ) : Type 0 where
  pub least : 1 ≤ levels
  pub most : levels ≤ MOST_LEVELS

pub record IsShape (shape : Shape) : Type 0 where
  pub block_size : IsBlockSize shape.block_size
  pub levels : IsLevelCount shape.levels
  pub seed : IsSixteenBytes shape.seed

-- a size and a stamp that fit their fields
pub record IsMeta (meta : Meta) : Type 0 where
  pub size : meta.size < 2 ^ 64
  pub seconds : FitsSigned w64 meta.stamp.seconds
  pub nanos : meta.stamp.nanos < 1000000000

-- a hash that is there has sixteen bytes
abbrev pub HasDigest : Block → Type 0
HasDigest block = IfSome block.hash (λ (digest : Digest16). IsSixteenBytes digest.0)

-- a record by itself, but for the number of its blocks
pub record IsRecord (kept : Record) : Type 0 where
  pub path : IsRecordPath kept.path
  pub meta : IsMeta kept.meta
  pub digests : All HasDigest kept.blocks

-- one path is less than another in byte order
abbrev pub IsLessPath : List ℕ → List ℕ → Type 0
IsLessPath earlier later = slice_cmp nat_cmp earlier later ≡ Less

-- one record may stand before another: its path is less in byte order, and no directory of the other's
pub record ComesBefore (earlier later : Record) : Type 0 where
  pub less : IsLessPath earlier.path later.path
  pub not_nested : ¬ (IsDirectoryOf earlier.path later.path)

-- a column of a table of some length, but for the numbers of blocks: the records in order, each position used once and below the length
pub record IsColumn (the_length : ℕ) (column : Column) : Type 0 where
  pub name : IsName column.name
  pub records : All IsRecord column.records
  pub order : AllPairs ComesBefore column.records
  pub below : All (λ position. position < the_length) (positions_of (column_blocks column))
  pub once : AllPairs (λ a b. a ≢ b) (positions_of (column_blocks column))

-- columns that may stand in one table of this length and block size, but for the numbers of blocks
pub record AreColumns (the_length block_size : ℕ) (columns : List Column) : Type 0 where
  pub few : length columns ≤ most_columns
  pub each : All (IsColumn the_length) columns
  pub names : AllPairs (λ (earlier later : Column). earlier.name ≢ later.name) columns
  pub few_records : length (records_of columns) ≤ most_records
  pub few_blocks : blocks_due block_size (records_of columns) ≤ most_blocks

-- a record has as many blocks as its size asks for
abbrev pub IsWhole : ℕ → Record → Type 0
IsWhole block_size kept = length kept.blocks ≡ block_count block_size kept.meta.size

-- no check was made, and none found anything
pub record HasNoHistory (info : Info) : Type 0 where
  pub last : info.last ≡ 0
  pub bad : info.bad ≡ false
  pub fresh : info.fresh ≡ false

-- a pending stripe has no history
abbrev pub IsState : Info → Type 0
IsState info = info.mark ≡ Pending → HasNoHistory info

pub record IsInfo (info : Info) : Type 0 where
  pub state : IsState info
  pub last : info.last < 2 ^ 64

-- each block at this stripe has its hash
abbrev pub IsHashedAt : List Column → ℕ → Type 0
IsHashedAt columns stripe = All (λ (block : Block). block.position ≡ stripe → IsSome block.hash) (blocks_of columns)

-- the information on stripes, from 0 on, fits the columns: each block of a synced stripe has its hash
pub record AreInfos (columns : List Column) (infos : List Info) : Type 0 where
  pub each : All IsInfo infos
  pub hashed : (stripe : ℕ) → stripe < length infos → (info_at infos stripe).mark ≡ Synced → IsHashedAt columns stripe

-- a valid table
pub record IsValid (table : TableValue) : Type 0 where
  pub shape : IsShape table.shape
  pub some_column : 1 ≤ length table.columns
  pub columns : AreColumns (length table.infos) table.shape.block_size table.columns
  pub whole : All (IsWhole table.shape.block_size) (records_of table.columns)
  pub short : length table.infos ≤ most_blocks
  pub length_is : length table.infos ≡ end_of (positions_of (blocks_of table.columns))
  pub infos : AreInfos table.columns table.infos
