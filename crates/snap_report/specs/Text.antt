-- The texts of printed lines. Numbers are decimal, and each line ends with a line feed.
use Rattle.std.specs.Prelude.{ℕ, ◌-◌, ◌+◌, ◌/◌, ◌%◌, ◌==◌, ◌||◌, nat_lt, List, [], ◌∷◌, ◌++◌, length, replicate, codes, Bool, Option, None, Some, if◌then◌else◌}
use Rattle.std.specs.Fmt.{decimal, signed_decimal}
use Rattle.std.specs.List.{flat_map}
use Rattle.disk_model.specs.declared.meta.Meta.{Meta}
use Rattle.file_table.specs.Table.{Column, column_at, record_at}

-- a hexadecimal digit in lower case
abbrev pub hex_digit : ℕ → ℕ
hex_digit n = if nat_lt n 10 then 48 + n else 87 + n

-- a byte below 32, the byte 127 or a backslash
abbrev pub is_escaped : ℕ → Bool
is_escaped byte = nat_lt byte 32 || (byte == 127) || (byte == 92)

-- such a byte is printed as `\x` and two digits, any other as it is
abbrev pub printed_byte : ℕ → List ℕ
printed_byte byte = if is_escaped byte then 92 ∷ 120 ∷ hex_digit (byte / 16) ∷ hex_digit (byte % 16) ∷ [] else byte ∷ []

-- a path or a word as it is printed
abbrev pub printed : List ℕ → List ℕ
printed bytes = flat_map printed_byte bytes

-- a number in nine digits, with zeros before it
abbrev pub nine_digits : ℕ → List ℕ
nine_digits n = replicate (9 - length (decimal n)) 48 ++ decimal n

-- size, space, seconds, dot, nanoseconds
abbrev pub meta_text : Meta → List ℕ
meta_text meta = decimal meta.size ++ 32 ∷ signed_decimal meta.stamp.seconds ++ 46 ∷ nine_digits meta.stamp.nanos

-- a disk's name, a colon and a path
abbrev pub file_text : List ℕ → List ℕ → List ℕ
file_text name path = name ++ 58 ∷ printed path

-- a line of a list: the meta, the disk's name and the path
abbrev pub file_line : List ℕ → List ℕ → Meta → List ℕ
file_line name path meta = meta_text meta ++ 32 ∷ file_text name path ++ 10 ∷ []

-- the last line: how many files, and how many bytes they have together
abbrev pub totals_text : ℕ → ℕ → List ℕ
totals_text files bytes = decimal files ++ codes " files, " ++ decimal bytes ++ codes " bytes\n"

-- the file of a record, by the numbers of its disk and of itself
abbrev pub record_text : List Column → ℕ → ℕ → List ℕ
record_text columns disk rec = file_text (column_at columns disk).name (record_at columns disk rec).path

-- what was found in the place of a file
abbrev pub found_text : Option Meta → List ℕ
found_text None = codes " found nothing"
found_text (Some meta) = codes " found " ++ meta_text meta

-- the last line of a sync: how many stripes it synced, and how many are pending at its end
abbrev pub sync_text : ℕ → ℕ → List ℕ
sync_text synced pending = codes "sync: " ++ decimal synced ++ codes " stripes synced, " ++ decimal pending ++ codes " pending\n"
