-- A level of several files, by the bytes of its parts.
use Rattle.std.specs.Prelude.{ℕ, ◌-◌, ◌^◌, List, [], ◌∷◌, ◌++◌, length, map, take, drop, get_or, nat_lt, if◌then◌else◌}
use Rattle.std.specs.List.{sum}
use Rattle.disk_model.specs.Files.{Files}

-- a part, with what the later ones join to: of a part that another follows only so many bytes count, and those after it only
-- where it is full
abbrev pub before_rest : ℕ → List ℕ → List (List ℕ) → List ℕ → List ℕ
before_rest capacity part [] more = part
before_rest capacity part (next ∷ rest) more = if nat_lt (length part) capacity then part else (take capacity part ++ more)

-- the bytes of the parts in order, up to and including the first that isn't full
abbrev pub joined : ℕ → List (List ℕ) → List ℕ
joined capacity [] = []
joined capacity (part ∷ rest) = before_rest capacity part rest (joined capacity rest)

-- what a level holds: no more bytes than a length tells
abbrev pub level_bytes : ℕ → List (List ℕ) → List ℕ
level_bytes capacity parts = take (2 ^ 64 - 1) (joined capacity parts)

-- the parts of each level, by how many each has
abbrev pub grouped : List ℕ → List (List ℕ) → List (List (List ℕ))
grouped [] files = []
grouped (count ∷ counts) files = take count files ∷ grouped counts (drop count files)

-- the files of a vault whose levels have so many parts each
abbrev pub seen : List ℕ → ℕ → Files → Files
seen counts capacity files = record { parities = map (level_bytes capacity) (grouped counts files.parities); contents = files.contents }

-- how many parts stand before those of a level, and how many it has
abbrev pub first_part : List ℕ → ℕ → ℕ
first_part counts level = sum (take level counts)

abbrev pub part_count : List ℕ → ℕ → ℕ
part_count counts level = get_or counts level 0

-- so many parts from a first one on
abbrev pub parts_from : ℕ → ℕ → Files → List (List ℕ)
parts_from first count files = take count (drop first files.parities)

abbrev pub part_of : List (List ℕ) → ℕ → List ℕ
part_of parts i = get_or parts i []
