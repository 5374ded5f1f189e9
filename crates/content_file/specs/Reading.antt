-- Reading a content file from left to right: the field at the front of the bytes, and the bytes after it. `None` where no such field stands there.
use Rattle.std.specs.Prelude.{ℕ, zero, suc, ◌*◌, List, [], ◌∷◌, length, take, drop, true, false, nat_lt, ◌==◌, ◌||◌, if◌then◌else◌, codes}
use Rattle.std.specs.Str.{bytes_eq}
use Rattle.std.specs.Prelude.{Option, None, Some}
use Rattle.std.specs.Int.{Width, w16, w32, w64, byte_len, from_le_bytes, cast_signed}
use Rattle.disk_model.specs.declared.meta.Meta.{Meta}
use Rattle.block_hash.specs.declared.Digest16.{Digest16}
use Rattle.block_hash.specs.declared.Kind.{Kind}
use Rattle.block_hash.specs.declared.Kind.TheVariants.{Md5, Sha256}
use Rattle.file_table.specs.declared.shape.Shape.{Shape}
use Rattle.file_table.specs.declared.block.Block.{Block}
use Rattle.file_table.specs.declared.info.Info.{Info}
use Rattle.file_table.specs.declared.info.Mark.TheVariants.{Pending, Synced}

-- one field, and then what follows from it
infixl 10 ◌>>=◌
abbrev pub ◌>>=◌ : {A B : Type 0} → Option A → (A → Option B) → Option B
None >>= f = None
(Some x) >>= f = f x

abbrev pub byte_at : List ℕ → Option (ℕ × List ℕ)
byte_at [] = None
byte_at (byte ∷ rest) = Some (byte, rest)

abbrev pub number_at : Width → List ℕ → Option (ℕ × List ℕ)
number_at w bytes = if nat_lt (length bytes) (byte_len w) then None else Some (from_le_bytes w (take (byte_len w) bytes), drop (byte_len w) bytes)

-- so many bytes as they are
abbrev pub piece_at : ℕ → List ℕ → Option (List ℕ × List ℕ)
piece_at n bytes = if nat_lt (length bytes) n then None else Some (take n bytes, drop n bytes)

-- a text behind its length in one byte, and behind its length in two
unfoldable pub short_text_at : List ℕ → Option (List ℕ × List ℕ)
short_text_at bytes = do
  size ← byte_at bytes
  piece_at size.0 size.1

unfoldable pub long_text_at : List ℕ → Option (List ℕ × List ℕ)
long_text_at bytes = do
  size ← number_at w16 bytes
  piece_at size.0 size.1

unfoldable pub meta_at : List ℕ → Option (Meta × List ℕ)
meta_at bytes = do
  size ← number_at w64 bytes
  seconds ← number_at w64 size.1
  nanos ← number_at w32 seconds.1
  if nat_lt nanos.0 1000000000 then Some (record { size = size.0; stamp = record { seconds = cast_signed w64 seconds.0; nanos = nanos.0 } }, nanos.1) else None

unfoldable pub hash_at : List ℕ → Option (Option Digest16 × List ℕ)
hash_at [] = None
hash_at (zero ∷ rest) = Some (None, rest)
hash_at (suc zero ∷ rest) = do
  digest ← piece_at 16 rest
  Some (Some (record { 0 = digest.0 }), digest.1)
hash_at (suc (suc flag) ∷ rest) = None

unfoldable pub block_at : List ℕ → Option (Block × List ℕ)
block_at bytes = do
  position ← number_at w32 bytes
  hash ← hash_at position.1
  Some (record { position = position.0; hash = hash.0 }, hash.1)

-- what flags say of a stripe that was last checked then
abbrev pub info_of : ℕ → ℕ → Option Info
info_of flags last =
    if flags == 0 then Some (record { mark = Pending; last = last; bad = false; fresh = false })
    else if flags == 1 then Some (record { mark = Synced; last = last; bad = false; fresh = false })
    else if flags == 3 then Some (record { mark = Synced; last = last; bad = true; fresh = false })
    else if flags == 5 then Some (record { mark = Synced; last = last; bad = false; fresh = true })
    else if flags == 7 then Some (record { mark = Synced; last = last; bad = true; fresh = true })
    else None

unfoldable pub info_at : List ℕ → Option (Info × List ℕ)
info_at bytes = do
  flags ← byte_at bytes
  last ← number_at w64 flags.1
  info ← info_of flags.0 last.0
  Some (info, last.1)

-- a number from 1 to the most
abbrev pub from_one : ℕ → ℕ × List ℕ → Option (ℕ × List ℕ)
from_one most field = if field.0 == 0 || nat_lt most field.0 then None else Some field

unfoldable pub kibibytes_at : List ℕ → Option (ℕ × List ℕ)
kibibytes_at bytes = do
  size ← number_at w32 bytes
  from_one 4096 size

unfoldable pub levels_at : List ℕ → Option (ℕ × List ℕ)
levels_at bytes = do
  levels ← byte_at bytes
  from_one 6 levels

abbrev pub kind_of : ℕ → Option Kind
kind_of code = if code == 1 then Some Md5 else if code == 2 then Some Sha256 else None

unfoldable pub kind_at : List ℕ → Option (Kind × List ℕ)
kind_at bytes = do
  code ← byte_at bytes
  kind ← kind_of code.0
  Some (kind, code.1)

unfoldable pub shape_at : List ℕ → Option (Shape × List ℕ)
shape_at bytes = do
  size ← kibibytes_at bytes
  levels ← levels_at size.1
  kind ← kind_at levels.1
  seed ← piece_at 16 kind.1
  Some (record { block_size = size.0 * 1024; levels = levels.0; kind = kind.0; seed = seed.0 }, seed.1)

-- how many stripes there are
unfoldable pub length_at : List ℕ → Option (ℕ × List ℕ)
length_at bytes = do
  size ← number_at w32 bytes
  if nat_lt 67108864 size.0 then None else Some size

-- how many columns there are
unfoldable pub count_at : List ℕ → Option (ℕ × List ℕ)
count_at bytes = do
  count ← byte_at bytes
  from_one 251 count

-- the bytes after the magic and the version
unfoldable pub magic_at : List ℕ → Option (List ℕ)
magic_at bytes = do
  text ← piece_at 7 bytes
  known ← if bytes_eq text.0 (codes "SNAPRCF") then Some text else None
  version ← byte_at known.1
  if version.0 == 1 then Some version.1 else None
