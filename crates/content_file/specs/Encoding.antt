-- A table's spelling by its fields: which field stands at a place, and all bytes from there on; and the digest behind them.
use Rattle.std.specs.Prelude.{ℕ, ◌+◌, ◌<◌, List, [], ◌∷◌, ◌≡◌, ◌++◌, length, drop, take}
use Rattle.std.specs.Int.{w32, to_le_bytes}
use Rattle.std.specs.List.{flat_map}
use Rattle.sha2.specs.Sha256.{sha256}
use Rattle.file_table.specs.Table.{TableValue, column_at, record_at}
use Rattle.file_table.specs.Valid.{IsValid}
use Rattle.content_file.specs.Spelling.{magic, shape_bytes, short_text, long_text, meta_bytes, block_bytes, record_bytes, column_bytes, info_bytes, body}
use Rattle.content_file.specs.declared.digest.TableDigest.{TableDigest}
use Rattle.content_file.specs.declared.place.Place.{Place}
use Rattle.content_file.specs.declared.place.Place.TheVariants as places

-- the digest of a table's fields
abbrev pub IsDigestOf : TableValue → TableDigest → Type 0
IsDigestOf table digest = digest.0 ≡ sha256 (body table)

-- the table has a field there
abbrev pub IsPlace : TableValue → Place → Type 0
IsPlace table (places.Column d) = (d < length table.columns) × IsValid table
IsPlace table (places.Record d i) = (d < length table.columns) × (i < length (column_at table.columns d).records)
IsPlace table (places.Blocks d i k) = (d < length table.columns) × (i < length (column_at table.columns d).records) × (k < length (record_at table.columns d i).blocks)
IsPlace table (places.Stripes s) = s < length table.infos
IsPlace table _ = Unit {0}

-- a field of the body stands there
abbrev pub IsBody : Place → Type 0
IsBody places.Digest = ⊥
IsBody places.End = ⊥
IsBody _ = Unit {0}

-- all before the columns
abbrev pub head_of : TableValue → List ℕ
head_of table = magic ++ shape_bytes table.shape ++ to_le_bytes w32 (length table.infos) ++ length table.columns ∷ []

-- the name of a column, and how many records it has
abbrev pub column_head : TableValue → ℕ → List ℕ
column_head table d = short_text (column_at table.columns d).name ++ to_le_bytes w32 (length (column_at table.columns d).records)

-- path, size and stamp of a record
abbrev pub record_head : TableValue → ℕ → ℕ → List ℕ
record_head table d i = long_text (record_at table.columns d i).path ++ meta_bytes (record_at table.columns d i).meta

-- how many blocks one field has at most, and how many stripes
abbrev pub most_blocks_at_once : ℕ
most_blocks_at_once = 128

abbrev pub most_stripes_at_once : ℕ
most_stripes_at_once = 256

-- the field at a place, in a file that has these bytes behind its body
abbrev pub field_of : TableValue → List ℕ → Place → List ℕ
field_of table end places.Head = head_of table
field_of table end (places.Column d) = column_head table d
field_of table end (places.Record d i) = record_head table d i
field_of table end (places.Blocks d i k) = flat_map block_bytes (take most_blocks_at_once (drop k (record_at table.columns d i).blocks))
field_of table end (places.Stripes s) = flat_map info_bytes (take most_stripes_at_once (drop s table.infos))
field_of table end places.Digest = end
field_of table end places.End = []

-- all from a stripe, a column, a record or a block on
abbrev pub stripes_from : TableValue → List ℕ → ℕ → List ℕ
stripes_from table end s = flat_map info_bytes (drop s table.infos) ++ end

abbrev pub columns_from : TableValue → List ℕ → ℕ → List ℕ
columns_from table end d = flat_map column_bytes (drop d table.columns) ++ stripes_from table end 0

abbrev pub records_from : TableValue → List ℕ → ℕ → ℕ → List ℕ
records_from table end d i = flat_map record_bytes (drop i (column_at table.columns d).records) ++ columns_from table end (d + 1)

abbrev pub blocks_from : TableValue → List ℕ → ℕ → ℕ → ℕ → List ℕ
blocks_from table end d i k = flat_map block_bytes (drop k (record_at table.columns d i).blocks) ++ records_from table end d (i + 1)

-- all from a place on, in a file that has these bytes behind its body
abbrev pub from : TableValue → List ℕ → Place → List ℕ
from table end places.Head = body table ++ end
from table end (places.Column d) = columns_from table end d
from table end (places.Record d i) = records_from table end d i
from table end (places.Blocks d i k) = blocks_from table end d i k
from table end (places.Stripes s) = stripes_from table end s
from table end places.Digest = end
from table end places.End = []
