-- Values of the definitions on a whole content file, and on damaged ones.
use Rattle.std.specs.Prelude.{◌≡◌, ℕ, List, [], ◌∷◌, ◌++◌, map, take, drop, replicate, slice_set, refl, Option, Some, None}
use Rattle.std.specs.Str.{is_utf8, chars}
use Rattle.std.specs.Char.{encode_utf8}
use Rattle.sha2.specs.Sha256.{sha256, digest_bytes, hash_after, compress, rounds, schedule, first_words}
use Rattle.content_file.specs.Flaw.{Flaw, Short, Magic, Version, Value, Name, Path, Order, Full, Position, Length, Hash, Digest, Extra, Damage, and_then, found_or, passed_or}
use Rattle.content_file.specs.FirstFlaw.{first_flaw, read_many, read_magic, read_from_one, read_kind, read_shape, read_length, read_head, read_name, read_count, read_path, read_size, read_stamp, read_hash, read_block, read_record, read_column, read_info, read_end, read_content}
use Rattle.content_file.specs.Reading.{short_text_at, long_text_at}

-- bytes, each with its first wrong field
abbrev pub HaveFlaws : List (List ℕ × Option Damage) → Type 0
HaveFlaws cases = map (λ (c : List ℕ × Option Damage). first_flaw c.0) cases ≡ map (λ (c : List ℕ × Option Damage). c.1) cases

-- damage at an offset
abbrev at : ℕ → Flaw → Option Damage
at offset why = Some (record { offset = offset; why = why })

-- One disk `d1` with one file `a` of ten bytes, synced at 100: magic and version; block size, levels, kind; seed; length, columns,
-- name, records; path, size; seconds, nanoseconds; position, has hash; hash; flags, last check.
abbrev pub fields : List ℕ
fields =
    0x53 ∷ 0x4e ∷ 0x41 ∷ 0x50 ∷ 0x52 ∷ 0x43 ∷ 0x46 ∷ 0x01
    ∷ 0x01 ∷ 0x00 ∷ 0x00 ∷ 0x00 ∷ 0x01 ∷ 0x01
    ∷ 0x61 ∷ 0x62 ∷ 0x63 ∷ 0x64 ∷ 0x65 ∷ 0x66 ∷ 0x67 ∷ 0x68 ∷ 0x69 ∷ 0x6a ∷ 0x6b ∷ 0x6c ∷ 0x6d ∷ 0x6e ∷ 0x6f ∷ 0x70
    ∷ 0x01 ∷ 0x00 ∷ 0x00 ∷ 0x00 ∷ 0x01 ∷ 0x02 ∷ 0x64 ∷ 0x31 ∷ 0x01 ∷ 0x00 ∷ 0x00 ∷ 0x00
    ∷ 0x01 ∷ 0x00 ∷ 0x61 ∷ 0x0a ∷ 0x00 ∷ 0x00 ∷ 0x00 ∷ 0x00 ∷ 0x00 ∷ 0x00 ∷ 0x00
    ∷ 0x01 ∷ 0x00 ∷ 0x00 ∷ 0x00 ∷ 0x00 ∷ 0x00 ∷ 0x00 ∷ 0x00 ∷ 0x05 ∷ 0x00 ∷ 0x00 ∷ 0x00
    ∷ 0x00 ∷ 0x00 ∷ 0x00 ∷ 0x00 ∷ 0x01
    ∷ 0xc3 ∷ 0xfc ∷ 0xd3 ∷ 0xd7 ∷ 0x61 ∷ 0x92 ∷ 0xe4 ∷ 0x00 ∷ 0x7d ∷ 0xfb ∷ 0x49 ∷ 0x6c ∷ 0xca ∷ 0x67 ∷ 0xe1 ∷ 0x3b
    ∷ 0x05 ∷ 0x64 ∷ 0x00 ∷ 0x00 ∷ 0x00 ∷ 0x00 ∷ 0x00 ∷ 0x00 ∷ 0x00 ∷ []

-- SHA-256 of those bytes
abbrev pub digest : List ℕ
digest =
    0x02 ∷ 0xc3 ∷ 0xa9 ∷ 0xa1 ∷ 0x60 ∷ 0x02 ∷ 0x75 ∷ 0xe4 ∷ 0xf6 ∷ 0x5c ∷ 0x85 ∷ 0xb7 ∷ 0x03 ∷ 0xd4 ∷ 0x92 ∷ 0x6f
    ∷ 0xa4 ∷ 0xa6 ∷ 0x56 ∷ 0xec ∷ 0x18 ∷ 0x84 ∷ 0x31 ∷ 0x7a ∷ 0xe9 ∷ 0xa2 ∷ 0x8c ∷ 0x6b ∷ 0x3d ∷ 0xf8 ∷ 0xd5 ∷ 0xd1 ∷ []

-- the whole file, of 127 bytes
abbrev pub one_file : List ℕ
one_file = fields ++ digest

-- the same with another byte at an offset
abbrev pub but : ℕ → ℕ → List ℕ
but offset byte = slice_set one_file offset byte

-- the fields before the columns, of a table of this length with so many columns
abbrev pub head_with : ℕ → ℕ → List ℕ
head_with stripes columns = take 30 one_file ++ stripes ∷ 0 ∷ 0 ∷ 0 ∷ columns ∷ []

-- the name `d1`, and a number of records
abbrev pub column_with : ℕ → List ℕ
column_with records = 2 ∷ 0x64 ∷ 0x31 ∷ records ∷ 0 ∷ 0 ∷ 0 ∷ []

-- a path, and a file's size of two low bytes, at 0 s and 0 ns
abbrev pub file_with : List ℕ → ℕ → ℕ → List ℕ
file_with path low high = path ++ low ∷ high ∷ replicate 18 0

-- the paths `a`, `b` and `a/b`
abbrev pub path_a : List ℕ
path_a = 1 ∷ 0 ∷ 0x61 ∷ []

abbrev pub path_b : List ℕ
path_b = 1 ∷ 0 ∷ 0x62 ∷ []

abbrev pub path_a_b : List ℕ
path_a_b = 3 ∷ 0 ∷ 0x61 ∷ 0x2f ∷ 0x62 ∷ []

-- a block at position 0 without a hash
abbrev pub block_0 : List ℕ
block_0 = 0 ∷ 0 ∷ 0 ∷ 0 ∷ 0 ∷ []

-- before the columns
pub head_flaws : HaveFlaws (
    ([], at 0 Short) ∷
    (take 6 one_file, at 0 Short) ∷
    (but 0 1, at 0 Magic) ∷
    (take 7 one_file, at 7 Short) ∷
    (but 7 2, at 7 Version) ∷
    (but 8 0, at 8 Value) ∷
    (but 9 0x10, at 8 Value) ∷
    (but 12 7, at 12 Value) ∷
    (but 13 3, at 13 Value) ∷
    (take 29 one_file, at 14 Short) ∷
    (but 33 5, at 30 Value) ∷
    (but 34 0, at 34 Value) ∷
    (but 34 252, at 34 Value) ∷
    [])
unfolding and_then found_or passed_or read_many read_magic read_from_one read_kind read_shape read_length read_head read_name read_count read_path
    read_size read_stamp read_hash read_block read_record read_column read_info read_end read_content short_text_at long_text_at is_utf8 chars encode_utf8
head_flaws = refl

-- a name, a number of records
pub column_flaws : HaveFlaws (
    (take 37 one_file, at 35 Short) ∷
    (but 35 0, at 35 Name) ∷
    (but 36 0x2f, at 35 Name) ∷
    (head_with 0 2 ++ column_with 0 ++ column_with 0, at 42 Name) ∷
    (but 41 2, at 38 Full) ∷
    (take 40 one_file, at 38 Short) ∷
    [])
unfolding and_then found_or passed_or read_many read_magic read_from_one read_kind read_shape read_length read_head read_name read_count read_path
    read_size read_stamp read_hash read_block read_record read_column read_info read_end read_content short_text_at long_text_at is_utf8 chars encode_utf8
column_flaws = refl

-- a path that ends within, `/`, one less than the one before, the same, one below the one before
pub path_flaws : HaveFlaws (
    (take 44 one_file, at 42 Short) ∷
    (but 44 0x2f, at 42 Path) ∷
    (head_with 0 1 ++ column_with 2 ++ file_with path_b 0 0 ++ file_with path_a 0 0, at 65 Order) ∷
    (head_with 0 1 ++ column_with 2 ++ file_with path_a 0 0 ++ file_with path_a 0 0, at 65 Order) ∷
    (head_with 0 1 ++ column_with 2 ++ file_with path_a 0 0 ++ file_with path_a_b 0 0, at 65 Path) ∷
    [])
unfolding and_then found_or passed_or read_many read_magic read_from_one read_kind read_shape read_length read_head read_name read_count read_path
    read_size read_stamp read_hash read_block read_record read_column read_info read_end read_content short_text_at long_text_at is_utf8 chars encode_utf8
path_flaws = refl

-- a size of more than all blocks, a cut second, 1,000,000,000 nanoseconds
pub meta_flaws : HaveFlaws (
    (but 51 1, at 45 Full) ∷
    (take 60 one_file, at 53 Short) ∷
    (take 61 one_file ++ 0x00 ∷ 0xca ∷ 0x9a ∷ 0x3b ∷ drop 65 one_file, at 61 Value) ∷
    [])
unfolding and_then found_or passed_or read_many read_magic read_from_one read_kind read_shape read_length read_head read_name read_count read_path
    read_size read_stamp read_hash read_block read_record read_column read_info read_end read_content short_text_at long_text_at is_utf8 chars encode_utf8
meta_flaws = refl

-- a position past the length, one that is used, a hash that is neither there nor not, and a cut one
pub block_flaws : HaveFlaws (
    (but 65 1, at 65 Position) ∷
    (head_with 1 1 ++ column_with 1 ++ file_with path_a 1 4 ++ block_0 ++ block_0, at 70 Position) ∷
    (but 69 2, at 69 Value) ∷
    (take 85 one_file, at 70 Short) ∷
    [])
unfolding and_then found_or passed_or read_many read_magic read_from_one read_kind read_shape read_length read_head read_name read_count read_path
    read_size read_stamp read_hash read_block read_record read_column read_info read_end read_content short_text_at long_text_at is_utf8 chars encode_utf8
block_flaws = refl

-- another length, where stripes follow and where nothing follows
pub length_flaws : HaveFlaws (
    (but 30 2, at 30 Length) ∷
    (slice_set (take 86 one_file) 30 2, at 30 Length) ∷
    [])
unfolding and_then found_or passed_or read_many read_magic read_from_one read_kind read_shape read_length read_head read_name read_count read_path
    read_size read_stamp read_hash read_block read_record read_column read_info read_end read_content short_text_at long_text_at is_utf8 chars encode_utf8
length_flaws = refl

-- no flags, others, those of a synced stripe without a hash; a cut check, and the check of a pending stripe
pub stripe_flaws : HaveFlaws (
    (take 86 one_file, at 86 Short) ∷
    (but 86 2, at 86 Value) ∷
    (head_with 1 1 ++ column_with 1 ++ file_with path_a 1 0 ++ block_0 ++ 1 ∷ [], at 70 Hash) ∷
    (head_with 1 1 ++ column_with 1 ++ file_with path_a 1 0 ++ block_0 ++ 0 ∷ [], at 71 Short) ∷
    (take 94 one_file, at 87 Short) ∷
    (but 86 0, at 87 Value) ∷
    [])
unfolding and_then found_or passed_or read_many read_magic read_from_one read_kind read_shape read_length read_head read_name read_count read_path
    read_size read_stamp read_hash read_block read_record read_column read_info read_end read_content short_text_at long_text_at is_utf8 chars encode_utf8
stripe_flaws = refl

-- a cut digest, another, that of other bytes, a byte after it; and the whole file
pub digest_flaws : HaveFlaws (
    (take 126 one_file, at 95 Short) ∷
    (but 126 0, at 95 Digest) ∷
    (but 14 0, at 95 Digest) ∷
    (one_file ++ 0 ∷ [], at 127 Extra) ∷
    (one_file, None) ∷
    [])
unfolding and_then found_or passed_or read_many read_magic read_from_one read_kind read_shape read_length read_head read_name read_count read_path
    read_size read_stamp read_hash read_block read_record read_column read_info read_end read_content short_text_at long_text_at is_utf8 chars encode_utf8
    sha256 digest_bytes hash_after compress rounds schedule first_words
digest_flaws = refl
