-- The array that a number makes: its files, their bytes, and what befalls them.
use Rattle.std.specs.Prelude.{ℕ, ◌+◌, ◌*◌, ◌/◌, ◌%◌, List, [], ◌∷◌, map, codes, bit_xor, Bool, true, false, if◌then◌else◌, None, pos}
use Rattle.std.specs.FinMap as finite
use Rattle.std.specs.List.{flat_map, range_with_len}
use Rattle.block_hash.specs.declared.Kind.TheVariants.{Md5}
use Rattle.disk_calm.specs.Calm.{fresh_calm_folder}
use Rattle.disk_model.specs.Folder.{FolderView}
use Rattle.disk_model.specs.Tree.{File, Tree}
use Rattle.disk_model.specs.declared.meta.Stamp.{Stamp}
use Rattle.file_table.specs.Table.{Column, TableValue}
use Rattle.rand_core.specs.Pcg32Seed.{pcg32_seed}
use Rattle.rand_core.specs.Steps.{fill_via_u64}
use Rattle.rand_pcg.specs.Lcg.{Lcg}
use Rattle.rand_pcg.specs.Pcg.{pcg64, pcg64_of_seed}
use Rattle.array_setup.specs.Setup.{SetupValue}
use Rattle.array_setup.specs.declared.setup.Disk.{Disk}

-- ---- the files

abbrev pub columns : List ℕ
columns = range_with_len 0 8

-- each disk has so many files
abbrev pub files_of : ℕ → ℕ
files_of n = 1 + n % 1000

abbrev pub size_of : ℕ → ℕ → ℕ
size_of column file = 700 * ((file + column) % 4)

-- `f`, and the number of the file in four digits
abbrev pub digit : ℕ → ℕ
digit number = 48 + number % 10

abbrev pub path_of : ℕ → List ℕ
path_of file = 102 ∷ digit (file / 1000) ∷ digit (file / 100) ∷ digit (file / 10) ∷ digit file ∷ []

abbrev pub stamp_of : ℕ → ℕ → Stamp
stamp_of column file = record { seconds = pos file; nanos = column + 1 }

-- ---- their bytes

-- the generator of a number
unfoldable pub generator : ℕ → Lcg
generator n = pcg64_of_seed (pcg32_seed 32 n)

-- so many bytes of it, from its next words, and the generator behind them
unfoldable pub drawn : ℕ → Lcg → List ℕ × Lcg
drawn size g = fill_via_u64 pcg64 size g

-- the generator behind files of these sizes
unfoldable pub behind : List ℕ → Lcg → Lcg
behind [] g = g
behind (size ∷ sizes) g = behind sizes (drawn size g).1

-- the sizes of so many files of a column, and of all files of so many columns
abbrev pub sizes_in : ℕ → ℕ → List ℕ
sizes_in column count = map (size_of column) (range_with_len 0 count)

abbrev pub sizes_before : ℕ → ℕ → List ℕ
sizes_before n count = flat_map (λ column. sizes_in column (files_of n)) (range_with_len 0 count)

-- the generator behind all files of so many columns
abbrev pub before : ℕ → ℕ → Lcg
before n count = behind (sizes_before n count) (generator n)

-- the bytes of a file: the next ones behind those of the files before it
abbrev pub bytes_from : Lcg → ℕ → ℕ → List ℕ
bytes_from g column file = (drawn (size_of column file) (behind (sizes_in column file) g)).0

abbrev pub bytes_of : ℕ → ℕ → ℕ → List ℕ
bytes_of n column file = bytes_from (before n column) column file

-- with another first byte, where there is one
unfoldable pub turned : List ℕ → List ℕ
turned [] = []
turned (byte ∷ bytes) = bit_xor byte 1 ∷ bytes

abbrev pub turned_if : Bool → List ℕ → List ℕ
turned_if turns bytes = if turns then turned bytes else bytes

-- ---- the trees

abbrev pub file_with : ℕ → ℕ → List ℕ → File
file_with column file bytes = record { stamp = stamp_of column file; bytes = bytes }

-- a path with its file, and so many of them; where they are turned, with another first byte
abbrev pub entry_from : Lcg → ℕ → Bool → ℕ → List ℕ × File
entry_from g column turns file = (path_of file, file_with column file (turned_if turns (bytes_from g column file)))

abbrev pub entries_from : Lcg → ℕ → Bool → ℕ → List (List ℕ × File)
entries_from g column turns count = map (entry_from g column turns) (range_with_len 0 count)

abbrev pub tree_from : Lcg → ℕ → Bool → ℕ → Tree
tree_from g column turns count = finite.from_entries (entries_from g column turns count)

abbrev pub tree_of : ℕ → ℕ → Tree
tree_of n column = tree_from (before n column) column false (files_of n)

abbrev pub trees : ℕ → List Tree
trees n = map (tree_of n) columns

-- the files of the third disk with other first bytes
abbrev pub turned_tree : ℕ → Tree
turned_tree n = tree_from (before n 2) 2 true (files_of n)

-- a calm folder in which no call failed, with these files and their stamps
abbrev pub standing : Tree → FolderView
standing tree = record (fresh_calm_folder true) { tree = tree }

-- ---- the array

abbrev pub seed : List ℕ
seed = codes "abcdefghijklmnop"

abbrev pub moment : ℕ
moment = 100

abbrev pub names : List (List ℕ)
names = codes "d1" ∷ codes "d2" ∷ codes "d3" ∷ codes "d4" ∷ codes "d5" ∷ codes "d6" ∷ codes "d7" ∷ codes "d8" ∷ []

abbrev pub disk_of : List ℕ → Disk
disk_of name = record { name = name; dir = name }

-- eight disks, three levels of one file each, one copy, no rules, blocks of 1 KiB
abbrev pub setup : SetupValue
setup = record {
  disks = map disk_of names;
  dirs = names;
  parities = codes "parity" ∷ codes "2-parity" ∷ codes "3-parity" ∷ [];
  parts = 1 ∷ 1 ∷ 1 ∷ [];
  split = 16000000000000;
  contents = codes "content" ∷ [];
  rules = [];
  nohidden = false;
  block_size = 1024;
  autosave = 0;
  log = None;
}

-- a table without files, of disks with these names
abbrev pub column_of : List ℕ → Column
column_of name = record { name = name; records = [] }

abbrev pub table_of : List (List ℕ) → TableValue
table_of disks = record {
  shape = record { block_size = 1024; levels = 3; kind = Md5; seed = seed };
  columns = map column_of disks;
  infos = [];
}

-- the table before the first sync
abbrev pub first_table : TableValue
first_table = table_of names
