-- The content file, version 1: the bytes of a table, field by field. Numbers are little endian.
use Rattle.std.specs.Prelude.{◌≡◌, ℕ, ◌+◌, ◌/◌, List, [], ◌∷◌, ◌++◌, length, codes, if◌then◌else◌}
use Rattle.std.specs.Prelude.{Option, None, Some}
use Rattle.std.specs.Int.{w16, w32, w64, to_le_bytes, cast_unsigned}
use Rattle.std.specs.List.{flat_map}
use Rattle.sha2.specs.Sha256.{sha256}
use Rattle.disk_model.specs.declared.meta.Meta.{Meta}
use Rattle.block_hash.specs.declared.Digest16.{Digest16}
use Rattle.block_hash.specs.declared.Kind.{Kind}
use Rattle.block_hash.specs.declared.Kind.TheVariants.{Md5, Sha256}
use Rattle.file_table.specs.declared.shape.Shape.{Shape}
use Rattle.file_table.specs.declared.block.Block.{Block}
use Rattle.file_table.specs.declared.info.Info.{Info}
use Rattle.file_table.specs.declared.info.Mark.{Mark}
use Rattle.file_table.specs.declared.info.Mark.TheVariants.{Pending, Synced}
use Rattle.file_table.specs.Table.{Record, Column, TableValue}
use Rattle.file_table.specs.Valid.{IsValid}

-- the magic bytes SNAPRCF and the version 1
abbrev pub magic : List ℕ
magic = codes "SNAPRCF" ++ 1 ∷ []

abbrev pub kind_code : Kind → ℕ
kind_code Md5 = 1
kind_code Sha256 = 2

-- a text behind its length in one byte, and behind its length in two
abbrev pub short_text : List ℕ → List ℕ
short_text text = length text ∷ text

abbrev pub long_text : List ℕ → List ℕ
long_text text = to_le_bytes w16 (length text) ++ text

-- block size in KiB, levels, kind, seed
abbrev pub shape_bytes : Shape → List ℕ
shape_bytes shape = to_le_bytes w32 (shape.block_size / 1024) ++ shape.levels ∷ kind_code shape.kind ∷ shape.seed

-- whether there is a hash, and the hash
abbrev pub hash_bytes : Option Digest16 → List ℕ
hash_bytes None = 0 ∷ []
hash_bytes (Some digest) = 1 ∷ digest.0

abbrev pub block_bytes : Block → List ℕ
block_bytes block = to_le_bytes w32 block.position ++ hash_bytes block.hash

-- size, seconds in two's complement, nanoseconds
abbrev pub meta_bytes : Meta → List ℕ
meta_bytes meta = to_le_bytes w64 meta.size ++ to_le_bytes w64 (cast_unsigned w64 meta.stamp.seconds) ++ to_le_bytes w32 meta.stamp.nanos

abbrev pub record_bytes : Record → List ℕ
record_bytes r = long_text r.path ++ meta_bytes r.meta ++ flat_map block_bytes r.blocks

abbrev pub column_bytes : Column → List ℕ
column_bytes column = short_text column.name ++ to_le_bytes w32 (length column.records) ++ flat_map record_bytes column.records

abbrev pub mark_flags : Mark → ℕ → ℕ → ℕ
mark_flags Pending bad fresh = 0
mark_flags Synced bad fresh = 1 + bad + fresh

-- 0 for a pending stripe; else 1, and 2 more where it is bad, and 4 more where it is fresh
abbrev pub flags : Info → ℕ
flags info = mark_flags info.mark (if info.bad then 2 else 0) (if info.fresh then 4 else 0)

abbrev pub info_bytes : Info → List ℕ
info_bytes info = flags info ∷ to_le_bytes w64 info.last

-- digest aside, all fields in their order
abbrev pub body : TableValue → List ℕ
body table = magic ++ shape_bytes table.shape ++ to_le_bytes w32 (length table.infos) ++ length table.columns ∷ flat_map column_bytes table.columns ++ flat_map info_bytes table.infos

-- the one spelling of a table: its fields, and the SHA-256 of their bytes
abbrev pub spelling : TableValue → List ℕ
spelling table = body table ++ sha256 (body table)

-- Bytes spell a table, as they are read: they are its one spelling.
abbrev pub Spells : TableValue → List ℕ → Type 0
Spells table bytes = bytes ≡ spelling table

-- the same of what a copy holds, if it is there: it is, and its bytes spell a table
abbrev pub HoldsTable : TableValue → Option (List ℕ) → Type 0
HoldsTable table held = held ≡ Some (spelling table)

-- bytes are in the grammar where they spell a valid table
pub record IsContent (bytes : List ℕ) : Type 0 where
  pub table : TableValue
  pub valid : IsValid table
  pub spelled : Spells table bytes
