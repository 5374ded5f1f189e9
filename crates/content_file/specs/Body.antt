-- A content file while it is read: what is still to come, and what one step of reading does.
use Rattle.std.specs.Prelude.{◌≡◌, ◌⊎◌, ℕ, ◌+◌, ◌<◌, ◌≤◌, List, [], ◌++◌, length, drop, true, false, Option, None, Some, Result, Ok, Err, All}
use Rattle.file_table.specs.Table.{TableValue, block_count, records_of}
use Rattle.file_table.specs.Valid.{IsWhole, most_columns, most_records}
use Rattle.file_table.specs.Building.{BuildingValue, IsBuilding, IsLength, last_column, newest_record, with_column}
use Rattle.content_file.specs.ReadingOn.{BodyValue}
use Rattle.content_file.specs.declared.fault.Refusal.{Refusal}
use Rattle.content_file.specs.declared.fault.Refusal.TheVariants as refusals
use Rattle.content_file.specs.Flaw.{Length, Good, Bad, ◌>>=◌}
use Rattle.content_file.specs.FirstFlaw.{read_name, read_end}
use Rattle.content_file.specs.ReadingOn.{read_body, read_rest}

-- the last record has all its blocks but for so many
pub record LacksThese (building : BuildingValue) (count : ℕ) : Type 0 where
  pub column : 0 < length building.columns
  pub some : 0 < length (last_column building.columns).records
  pub lacking : let last = newest_record building.columns in length last.blocks + count ≡ block_count building.shape.block_size last.meta.size

-- all that stands before the information on stripes was read
pub record IsPastColumns (body : BodyValue) : Type 0 where
  pub blocks : body.blocks ≡ 0
  pub named : body.named ≡ false
  pub records : body.records ≡ 0
  pub columns : body.columns ≡ 0

-- all was read but the digest
pub record IsDone (body : BodyValue) : Type 0 where
  pub past : IsPastColumns body
  pub stripes : body.stripes ≡ 0

-- all was read but the digest, and the length is right
pub record IsEnded (body : BodyValue) : Type 0 where
  pub done : IsDone body
  pub fits : IsLength body.builder

-- what is still to come fits what was read
pub record IsReading (body : BodyValue) : Type 0 where
  pub building : IsBuilding body.builder
  pub shape : body.builder.shape ≡ body.head.shape
  pub same_length : body.builder.length ≡ body.head.length
  pub lacking : 0 < body.blocks → LacksThese body.builder body.blocks
  pub whole : body.blocks ≡ 0 → All (IsWhole body.builder.shape.block_size) (records_of body.builder.columns)
  pub column : (body.named ≡ true) ⊎ (0 < body.records) → 0 < length body.builder.columns
  pub some : 0 < length body.builder.columns + body.columns
  pub room : length body.builder.columns + body.columns ≤ most_columns
  pub read : body.read ≡ length (records_of body.builder.columns)
  pub few : body.named ≡ false → body.read + body.records ≤ most_records
  pub stripes : length body.builder.infos + body.stripes ≡ body.head.length
  pub infos : (body.builder.infos ≡ []) ⊎ IsPastColumns body

-- bytes end with these
pub record EndsIn (bytes rest : List ℕ) : Type 0 where
  pub before : List ℕ
  pub parts : bytes ≡ before ++ rest

-- what a name's reading leaves of the bytes, when the column was pushed
pub record ReadsName (old : BuildingValue) (bytes : List ℕ) (new : BuildingValue) (rest : List ℕ) : Type 0 where
  pub name : List ℕ
  pub name_is : read_name old.columns bytes ≡ Good (name, rest)
  pub pushed : new ≡ record old { columns = with_column old.columns name }

-- From one place and bytes reading goes on as from another and other bytes, whatever follows them.
pub record GoesOn (old : Option BodyValue) (bytes : List ℕ) (new : Option BodyValue) (rest : List ℕ) : Type 0 where
  pub goes : (whole more : List ℕ) → read_rest old whole (bytes ++ more) ≡ read_rest new whole (rest ++ more)
  pub ends : EndsIn bytes rest

-- one step of reading
pub record StepsTo (old : BodyValue) (bytes : List ℕ) (new : BodyValue) (rest : List ℕ) : Type 0 where
  pub reading : IsReading new
  pub goes_on : GoesOn (Some old) bytes (Some new) rest
  pub shorter : length rest < length bytes

-- why reading stops at a place with these bytes
abbrev pub StopsAt : Option BodyValue → List ℕ → Refusal → Type 0
StopsAt place bytes (refusals.Flawed why field) = (whole : List ℕ) → read_rest place whole bytes ≡ Bad why field.now
StopsAt place bytes refusals.Length = (whole : List ℕ) → read_rest place whole bytes ≡ Bad Length (drop 30 whole)
StopsAt place bytes refusals.Memory = Unit {0}

-- the table of all that was pushed
abbrev pub table_of : BuildingValue → TableValue
table_of building = record { shape = building.shape; columns = building.columns; infos = building.infos }

-- only the digest is still to come
pub record IsAtEnd (body : BodyValue) (rest : List ℕ) : Type 0 where
  pub ended : IsEnded body
  pub ends : (whole : List ℕ) → read_body body whole rest ≡ (read_end whole rest >>= λ digest. Good (table_of body.builder))

-- reading came to the digest, or stopped before
abbrev pub ReadsAll : BodyValue → List ℕ → Result Unit Refusal → Type 0
ReadsAll body rest (Ok _) = IsAtEnd body rest
ReadsAll body rest (Err refusal) = StopsAt (Some body) rest refusal

-- the head was read
pub record StartsWith (bytes : List ℕ) (body : BodyValue) (rest : List ℕ) : Type 0 where
  pub reading : IsReading body
  pub goes_on : GoesOn None bytes (Some body) rest
  pub long : length rest + 30 ≤ length bytes
