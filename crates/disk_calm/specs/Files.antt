-- Files in the order of their paths, as a tree.
use Rattle.std.specs.Prelude.{◌≡◌, ◌≢◌, ℕ, ◌<◌, ◌≤◌, List, ◌∷◌, [], length, take, map as list_map, slice_index, slice_index_or, Option, None, IsSome, IsSomeAnd, Some, Bool, false, if◌then◌else◌, pos}
use Rattle.std.specs.Option.{option_map}
use Rattle.std.specs.List.{AllByRecursion}
use Rattle.std.specs.FinMap as map
use Rattle.std.specs.Ordering.{nat_cmp}
use Rattle.std.specs.Cmp.Lexicographic.{slice_cmp}
use Rattle.std.specs.declared.cmp.Ordering.TheVariants.{Less}
use Rattle.disk_model.specs.Tree.{Tree, File, file_of, is_directory_of, meta_of, IsTree}
use Rattle.disk_model.specs.declared.meta.Meta.{Meta}
use Rattle.disk_model.specs.declared.meta.Stamp.{Stamp}
use Rattle.disk_calm.specs.declared.files.MemFile.{MemFile}

-- a file without its path
abbrev pub file_in : MemFile → File
file_in f = record { stamp = f.stamp; bytes = f.bytes }

-- a path with its file
abbrev pub entry_of : MemFile → List ℕ × File
entry_of f = (f.path, file_in f)

abbrev pub entries_of : List MemFile → List (List ℕ × File)
entries_of files = list_map entry_of files

-- the tree of files whose paths rise
abbrev pub tree_of : List MemFile → Tree
tree_of files = map.from_sorted (entries_of files)

-- each path is less than those after it, in byte order
abbrev pub IsRising : List MemFile → Type 0
IsRising [] = Unit {0}
IsRising (f ∷ files) = AllByRecursion (λ (g : MemFile). slice_cmp nat_cmp f.path g.path ≡ Less) files × IsRising files

-- the paths rise, and the files are a tree
pub record IsKept (files : List MemFile) : Type 0 where
  pub rising : IsRising files
  pub tree : IsTree (tree_of files)

-- the paths before a place are less than this one, and those from there on are not
pub record IsPlace (files : List MemFile) (path : List ℕ) (place : ℕ) : Type 0 where
  pub within : place ≤ length files
  pub before : (i : ℕ) (d : MemFile) → i < place → slice_cmp nat_cmp (slice_index_or files i d).path path ≡ Less
  pub after : (i : ℕ) (d : MemFile) → place ≤ i → i < length files → slice_cmp nat_cmp (slice_index_or files i d).path path ≢ Less

-- the file at a place has this path
pub record HasPath (files : List MemFile) (path : List ℕ) (place : ℕ) : Type 0 where
  pub within : place < length files
  pub is : (d : MemFile) → (slice_index_or files place d).path ≡ path

-- no file has this path
abbrev pub LacksPath : List MemFile → List ℕ → Type 0
LacksPath files path = (i : ℕ) (d : MemFile) → i < length files → (slice_index_or files i d).path ≢ path

-- a file is what stands before a slash at this place
pub record EndsDirectory (tree : Tree) (path : List ℕ) (end : ℕ) : Type 0 where
  pub slash : slice_index path end ≡ 47
  pub file : IsSome (file_of tree (take end path))

-- no file is a directory of the path
abbrev pub HasNoDirectory : Tree → List ℕ → Type 0
HasNoDirectory tree path = (other : List ℕ) (file : File) → file_of tree other ≡ Some file → is_directory_of other path ≡ false

-- the path is a directory of no file
abbrev pub HoldsNone : Tree → List ℕ → Type 0
HoldsNone tree path = (other : List ℕ) (file : File) → file_of tree other ≡ Some file → is_directory_of path other ≡ false

abbrev pub set_found : Option File → List ℕ → Tree → Tree
set_found None path tree = tree
set_found (Some file) path tree = map.insert tree path file

-- the file with this path became another, where there is one
abbrev pub changed : (File → File) → List ℕ → Tree → Tree
changed step path tree = set_found (option_map step (file_of tree path)) path tree

-- the stamp of a file that was made: 1970 began
abbrev pub first_stamp : Stamp
first_stamp = record { seconds = pos 0; nanos = 0 }

abbrev pub with_bytes : (List ℕ → List ℕ) → File → File
with_bytes step file = record file { bytes = step file.bytes }

-- with another stamp, where stamps are kept
abbrev pub with_stamp : Bool → Stamp → File → File
with_stamp keeps stamp file = record file { stamp = (if keeps then stamp else file.stamp) }

-- there is such a file, and it has fewer bytes
abbrev pub IsShorter : Tree → List ℕ → ℕ → Type 0
IsShorter tree path size = IsSomeAnd (file_of tree path) (λ file. length file.bytes < size)

-- a file as it is listed
abbrev pub info_of : MemFile → List ℕ × Meta
info_of f = (f.path, meta_of (file_in f))
