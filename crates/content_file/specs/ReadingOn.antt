-- Reading on from a place within a content file, with the columns as far as they were read.
use Rattle.std.specs.Prelude.{ℕ, zero, suc, ◌==◌, List, [], drop, Bool, true, false, Option, None, Some}
use Rattle.disk_model.specs.declared.meta.Meta.{Meta}
use Rattle.file_table.specs.declared.info.Info.{Info}
use Rattle.file_table.specs.Table.{Column, TableValue, block_count, records_of, column_blocks, blocks_of, positions_of, end_of}
use Rattle.file_table.specs.Building.{BuildingValue, last_column, with_column, with_record, with_block}
use Rattle.content_file.specs.declared.head.Head.{Head}
use Rattle.content_file.specs.Flaw.{Length, Read, Good, ◌>>=◌, passed_or}
use Rattle.content_file.specs.FirstFlaw.{read_many, read_head, read_name, read_count, read_path, read_size, read_stamp, read_block, read_info, read_end}

-- A content file whose head was read: what is built of it, and how much of it is still to come.
pub record BodyValue : Type 0 where
  pub head : Head
  pub builder : BuildingValue
  -- how many columns are still to come, and whether the number of records of the last one is
  pub columns : ℕ
  pub named : Bool
  -- how many records of the last column are still to come, and how many blocks of the last record
  pub records : ℕ
  pub blocks : ℕ
  -- of how many stripes the information is still to come
  pub stripes : ℕ
  -- how many records were read
  pub read : ℕ

-- path, size and stamp of one record more of the last column
unfoldable pub read_file : ℕ → List Column → List ℕ → Read ((List ℕ × Meta) × List ℕ)
read_file block_size columns bytes = do
  path ← read_path (last_column columns).records bytes
  size ← read_size block_size (records_of columns) path.1
  stamp ← read_stamp size.1
  Good ((path.0, record { size = size.0; stamp = stamp.0 }), stamp.1)

-- so many blocks more of the last record
unfoldable pub more_blocks : Head → ℕ → List Column → List ℕ → Read (List Column × List ℕ)
more_blocks head zero columns bytes = Good (columns, bytes)
more_blocks head (suc n) columns bytes = do
  block ← read_block head.length (column_blocks (last_column columns)) bytes
  more_blocks head n (with_block columns block.0) block.1

-- so many records more of the last column
unfoldable pub more_records : Head → ℕ → List Column → List ℕ → Read (List Column × List ℕ)
more_records head zero columns bytes = Good (columns, bytes)
more_records head (suc n) columns bytes = do
  file ← read_file head.shape.block_size columns bytes
  whole ← more_blocks head (block_count head.shape.block_size file.0.1.size) (with_record columns file.0.0 file.0.1) file.1
  more_records head n whole.0 whole.1

-- how many records the last column has, and then all of them
unfoldable pub all_records : Head → List Column → List ℕ → Read (List Column × List ℕ)
all_records head columns bytes = do
  count ← read_count columns bytes
  more_records head count.0 columns count.1

-- the records of the last column, of which the number is still to come, or so many records
abbrev pub some_records : Head → Bool → ℕ → List Column → List ℕ → Read (List Column × List ℕ)
some_records head true n columns bytes = all_records head columns bytes
some_records head false n columns bytes = more_records head n columns bytes

-- so many columns more
unfoldable pub more_columns : Head → ℕ → List Column → List ℕ → Read (List Column × List ℕ)
more_columns head zero columns bytes = Good (columns, bytes)
more_columns head (suc n) columns bytes = do
  name ← read_name columns bytes
  column ← all_records head (with_column columns name.0) name.1
  more_columns head n column.0 column.1

-- what follows the columns: the information on so many stripes more, and the digest
unfoldable pub read_stripes : Head → List Column → ℕ → List Info → List ℕ → List ℕ → Read TableValue
read_stripes head columns left infos whole bytes = do
  stripes ← passed_or Length (drop 30 whole) (head.length == end_of (positions_of (blocks_of columns))) bytes
  all ← read_many (read_info columns) left infos stripes
  digest ← read_end whole all.1
  Good (record { shape = head.shape; columns = columns; infos = all.0 })

-- what is still to come behind the head
unfoldable pub read_body : BodyValue → List ℕ → List ℕ → Read TableValue
read_body body whole bytes = do
  blocks ← more_blocks body.head body.blocks body.builder.columns bytes
  records ← some_records body.head body.named body.records blocks.0 blocks.1
  columns ← more_columns body.head body.columns records.0 records.1
  read_stripes body.head columns.0 body.stripes body.builder.infos whole columns.1

-- a file from its head on
unfoldable pub read_whole : List ℕ → List ℕ → Read TableValue
read_whole whole bytes = do
  head ← read_head bytes
  columns ← more_columns head.0 head.0.columns [] head.1
  read_stripes head.0 columns.0 head.0.length [] whole columns.1

-- what is still to come of a file whose head was read, or was not
abbrev pub read_rest : Option BodyValue → List ℕ → List ℕ → Read TableValue
read_rest None whole bytes = read_whole whole bytes
read_rest (Some body) whole bytes = read_body body whole bytes
