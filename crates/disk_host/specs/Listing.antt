-- What a walk through a data folder of the system found.
use Rattle.std.specs.Prelude.{◌≡◌, ℕ, ◌<◌, List, length, false, AllPairs, slice_index_or}
use Rattle.std.specs.Ordering.{nat_cmp}
use Rattle.std.specs.Cmp.Lexicographic.{slice_cmp}
use Rattle.std.specs.declared.cmp.Ordering.TheVariants.{Less}
use Rattle.disk_model.specs.Path.{IsValidPath}
use Rattle.disk_model.specs.Stamp.{IsStamp}
use Rattle.disk_model.specs.Tree.{is_directory_of}
use Rattle.disk_model.specs.declared.meta.FileInfo.{FileInfo}

-- a file with less than a second of nanoseconds in its stamp
abbrev pub HasStamp : FileInfo → Type 0
HasStamp file = IsStamp file.meta.stamp

-- one path is less than another in byte order
abbrev pub IsBelow : List ℕ → List ℕ → Type 0
IsBelow one other = slice_cmp nat_cmp one other ≡ Less

-- the paths rise in byte order
abbrev pub AreInOrder : List FileInfo → Type 0
AreInOrder files = AllPairs (λ (earlier later : FileInfo). IsBelow earlier.path later.path) files

-- one of the files has this path
pub record HasPath (files : List FileInfo) (path : List ℕ) : Type 0 where
  pub place : ℕ
  pub within : place < length files
  pub is : (other : FileInfo) → (slice_index_or files place other).path ≡ path

-- no file's path is a directory of this one
abbrev pub HasNoDirectoryOf : List FileInfo → List ℕ → Type 0
HasNoDirectoryOf files path = (i : ℕ) (other : FileInfo) → i < length files → is_directory_of (slice_index_or files i other).path path ≡ false

-- a file that may stand in a listing beside these, but for the order
pub record FitsAmong (files : List FileInfo) (file : FileInfo) : Type 0 where
  pub valid : IsValidPath file.path
  pub apart : HasNoDirectoryOf files file.path
