-- Reading a content file from left to right, field by field, up to the first wrong one.
-- Each definition reads what stands at the front of the bytes, and gives it with the bytes after it.
use Rattle.std.specs.Prelude.{ℕ, zero, suc, ◌+◌, ◌-◌, ◌*◌, ◌==◌, ◌&&◌, ◌||◌, not, List, [], ◌∷◌, ◌++◌, length, take, drop, nat_lt, nat_le, bytes_eq, codes, Option, None, Some}
use Rattle.std.specs.List.{flat_map}
use Rattle.std.specs.Int.{w32, w64, cast_signed}
use Rattle.sha2.specs.Sha256.{sha256}
use Rattle.disk_model.specs.declared.meta.Stamp.{Stamp}
use Rattle.block_hash.specs.declared.Digest16.{Digest16}
use Rattle.block_hash.specs.declared.Kind.{Kind}
use Rattle.file_table.specs.declared.shape.Shape.{Shape}
use Rattle.file_table.specs.declared.block.Block.{Block}
use Rattle.file_table.specs.declared.info.Info.{Info}
use Rattle.file_table.specs.Table.{Record, Column, TableValue, block_count, records_of, blocks_of, positions_of, blocks_due, end_of}
use Rattle.file_table.specs.Valid.{most_columns, most_records, most_blocks}
use Rattle.content_file.specs.declared.head.Head.{Head}
use Rattle.content_file.specs.Reading.{byte_at, number_at, piece_at, short_text_at, long_text_at, from_one, kind_of, info_of}
use Rattle.content_file.specs.Flaw.{Short, Magic, Version, Value, Name, Path, Order, Full, Position, Length, Hash, Digest, Extra, Damage, Read, Good, Bad, ◌>>=◌, found_or, passed_or, damage_of}
use Rattle.content_file.specs.Tests.{is_name, is_named, is_record_path, is_greatest, is_nested, is_used, is_hashed, is_pending}

-- so many parts one after another, each read with those before it known
unfoldable pub read_many : {A : Type 0} → (List A → List ℕ → Read (A × List ℕ)) → ℕ → List A → List ℕ → Read (List A × List ℕ)
read_many next zero before bytes = Good (before, bytes)
read_many next (suc n) before bytes = do
  part ← next before bytes
  read_many next n (before ++ part.0 ∷ []) part.1

-- ---- before the columns

-- the magic and the version
unfoldable pub read_magic : List ℕ → Read (List ℕ)
read_magic bytes = do
  text ← found_or Short bytes (piece_at 7 bytes)
  known ← passed_or Magic bytes (bytes_eq text.0 (codes "SNAPRCF")) text
  version ← found_or Short known.1 (byte_at known.1)
  passed_or Version known.1 (version.0 == 1) version.1

-- a number of these bytes, from 1 to the most
unfoldable pub read_from_one : ℕ → List ℕ → Option (ℕ × List ℕ) → Read (ℕ × List ℕ)
read_from_one most bytes number = do
  field ← found_or Short bytes number
  found_or Value bytes (from_one most field)

-- the kind of hash
unfoldable pub read_kind : List ℕ → Read (Kind × List ℕ)
read_kind bytes = do
  code ← found_or Short bytes (byte_at bytes)
  kind ← found_or Value bytes (kind_of code.0)
  Good (kind, code.1)

-- block size in KiB, levels, kind, seed
unfoldable pub read_shape : List ℕ → Read (Shape × List ℕ)
read_shape bytes = do
  size ← read_from_one 4096 bytes (number_at w32 bytes)
  levels ← read_from_one 6 size.1 (byte_at size.1)
  kind ← read_kind levels.1
  seed ← found_or Short kind.1 (piece_at 16 kind.1)
  Good (record { block_size = size.0 * 1024; levels = levels.0; kind = kind.0; seed = seed.0 }, seed.1)

-- how many stripes there are
unfoldable pub read_length : List ℕ → Read (ℕ × List ℕ)
read_length bytes = do
  size ← found_or Short bytes (number_at w32 bytes)
  passed_or Value bytes (nat_le size.0 most_blocks) size

-- all before the columns
unfoldable pub read_head : List ℕ → Read (Head × List ℕ)
read_head bytes = do
  rest ← read_magic bytes
  shape ← read_shape rest
  size ← read_length shape.1
  count ← read_from_one most_columns size.1 (byte_at size.1)
  Good (record { shape = shape.0; length = size.0; columns = count.0 }, count.1)

-- ---- a column, after these

-- its name
unfoldable pub read_name : List Column → List ℕ → Read (List ℕ × List ℕ)
read_name columns bytes = do
  name ← found_or Short bytes (short_text_at bytes)
  passed_or Name bytes (is_name name.0 && not (is_named columns name.0)) name

-- how many records it has
unfoldable pub read_count : List Column → List ℕ → Read (ℕ × List ℕ)
read_count columns bytes = do
  count ← found_or Short bytes (number_at w32 bytes)
  passed_or Full bytes (nat_le (length (records_of columns) + count.0) most_records) count

-- the path of a record, after these records of the column
unfoldable pub read_path : List Record → List ℕ → Read (List ℕ × List ℕ)
read_path records bytes = do
  path ← found_or Short bytes (long_text_at bytes)
  allowed ← passed_or Path bytes (is_record_path path.0) path
  greater ← passed_or Order bytes (is_greatest records path.0) path
  passed_or Path bytes (not (is_nested records path.0)) path

-- the size of a record, after all these records
unfoldable pub read_size : ℕ → List Record → List ℕ → Read (ℕ × List ℕ)
read_size block_size records bytes = do
  size ← found_or Short bytes (number_at w64 bytes)
  passed_or Full bytes (nat_le (blocks_due block_size records + block_count block_size size.0) most_blocks) size

-- seconds in two's complement, nanoseconds
unfoldable pub read_stamp : List ℕ → Read (Stamp × List ℕ)
read_stamp bytes = do
  seconds ← found_or Short bytes (number_at w64 bytes)
  nanos ← found_or Short seconds.1 (number_at w32 seconds.1)
  passed_or Value seconds.1 (nat_lt nanos.0 1000000000) (record { seconds = cast_signed w64 seconds.0; nanos = nanos.0 }, nanos.1)

-- whether there is a hash, and the hash
unfoldable pub read_hash : List ℕ → Read (Option Digest16 × List ℕ)
read_hash [] = Bad Short []
read_hash (zero ∷ rest) = Good (None, rest)
read_hash (suc zero ∷ rest) = do
  digest ← found_or Short rest (piece_at 16 rest)
  Good (Some (record { 0 = digest.0 }), digest.1)
read_hash (suc (suc flag) ∷ rest) = Bad Value (suc (suc flag) ∷ rest)

-- a block, after these of the column
unfoldable pub read_block : ℕ → List Block → List ℕ → Read (Block × List ℕ)
read_block the_length blocks bytes = do
  position ← found_or Short bytes (number_at w32 bytes)
  free ← passed_or Position bytes (nat_lt position.0 the_length && not (is_used blocks position.0)) position
  hash ← read_hash free.1
  Good (record { position = free.0; hash = hash.0 }, hash.1)

-- all blocks of these records
abbrev pub blocks_in : List Record → List Block
blocks_in records = flat_map (λ (kept : Record). kept.blocks) records

-- a record, after these of the column, in a column after these
unfoldable pub read_record : Head → List Column → List Record → List ℕ → Read (Record × List ℕ)
read_record head columns records bytes = do
  path ← read_path records bytes
  size ← read_size head.shape.block_size (records_of columns ++ records) path.1
  stamp ← read_stamp size.1
  blocks ← read_many (λ before. read_block head.length (blocks_in records ++ before)) (block_count head.shape.block_size size.0) [] stamp.1
  Good (record { path = path.0; meta = record { size = size.0; stamp = stamp.0 }; blocks = blocks.0 }, blocks.1)

-- a column, after these
unfoldable pub read_column : Head → List Column → List ℕ → Read (Column × List ℕ)
read_column head columns bytes = do
  name ← read_name columns bytes
  count ← read_count columns name.1
  records ← read_many (read_record head columns) count.0 [] count.1
  Good (record { name = name.0; records = records.0 }, records.1)

-- ---- after the columns

-- the information on a stripe, after that on those before: its flags, and when it was last checked
unfoldable pub read_info : List Column → List Info → List ℕ → Read (Info × List ℕ)
read_info columns infos bytes = do
  flags ← found_or Short bytes (byte_at bytes)
  unchecked ← found_or Value bytes (info_of flags.0 0)
  check ← passed_or Hash bytes (is_pending unchecked.mark || is_hashed columns (length infos)) flags.1
  last ← found_or Short check (number_at w64 check)
  passed_or Value check (not (is_pending unchecked.mark) || last.0 == 0) (record unchecked { last = last.0 }, last.1)

-- the digest of all bytes before it, and nothing after it
unfoldable pub read_end : List ℕ → List ℕ → Read (List ℕ)
read_end whole last = do
  digest ← found_or Short last (piece_at 32 last)
  rest ← passed_or Digest last (bytes_eq digest.0 (sha256 (take (length whole - length last) whole))) digest.1
  passed_or Extra rest (length rest == 0) digest.0

-- The whole file. Its length, which stands behind 30 bytes, is compared when all positions are known.
unfoldable pub read_content : List ℕ → Read TableValue
read_content bytes = do
  head ← read_head bytes
  columns ← read_many (read_column head.0) head.0.columns [] head.1
  stripes ← passed_or Length (drop 30 bytes) (head.0.length == end_of (positions_of (blocks_of columns.0))) columns.1
  infos ← read_many (read_info columns.0) head.0.length [] stripes
  digest ← read_end bytes infos.1
  Good (record { shape = head.0.shape; columns = columns.0; infos = infos.0 })

-- the first wrong field of a file, if there is one
abbrev pub first_flaw : List ℕ → Option Damage
first_flaw bytes = damage_of bytes (read_content bytes)
