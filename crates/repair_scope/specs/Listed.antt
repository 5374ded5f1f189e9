-- How listed files are searched.
use Rattle.std.specs.Prelude.{◌≡◌, ◌≢◌, ℕ, ◌<◌, ◌≤◌, List, length, slice_index_or}
use Rattle.std.specs.Ordering.{nat_cmp}
use Rattle.std.specs.Cmp.Lexicographic.{slice_cmp}
use Rattle.std.specs.declared.cmp.Ordering.{Ordering}
use Rattle.std.specs.declared.cmp.Ordering.TheVariants.{Less}
use Rattle.disk_model.specs.declared.meta.FileInfo.{FileInfo}

-- paths in byte order
abbrev pub path_cmp : List ℕ → List ℕ → Ordering
path_cmp = slice_cmp nat_cmp

-- the files before a place have paths less than these bytes, and those from there on do not
pub record SplitsAt (files : List FileInfo) (bytes : List ℕ) (place : ℕ) : Type 0 where
  pub before : (i : ℕ) (d : FileInfo) → i < place → i < length files → path_cmp (slice_index_or files i d).path bytes ≡ Less
  pub behind : (i : ℕ) (d : FileInfo) → place ≤ i → i < length files → path_cmp (slice_index_or files i d).path bytes ≢ Less
