-- Which of the listed files of each column are kept.
use Rattle.std.specs.Prelude.{ℕ, List, [], length, map, filter, get_or, Bool, ◌==◌, ◌&&◌}
use Rattle.std.specs.Ordering.{int_eq}
use Rattle.std.specs.List.{range_with_len}
use Rattle.disk_model.specs.Tree.{listed}
use Rattle.disk_model.specs.declared.meta.Meta.{Meta}
use Rattle.array_setup.specs.Setup.{SetupValue}
use Rattle.array_setup.specs.Keeps.{keeps}
use Rattle.folder_listing.specs.declared.listing.Listing.{Listing}

-- a listed file: its path, size and stamp
abbrev pub ListedFile : Type 0
ListedFile = List ℕ × Meta

-- equal size and equal stamp
abbrev pub same_meta : Meta → Meta → Bool
same_meta a b = a.size == b.size && int_eq a.stamp.seconds b.stamp.seconds && a.stamp.nanos == b.stamp.nanos

-- the files of a listing, and of each listing
abbrev pub files_of : Listing → List ListedFile
files_of listing = listed listing.files.items

abbrev pub lists_of : List Listing → List (List ListedFile)
lists_of listings = map files_of listings

-- a file of a column is kept
abbrev pub is_kept : SetupValue → ℕ → ListedFile → Bool
is_kept setup column file = keeps setup column file.0

-- the kept files of a column, in the order of the listing
abbrev pub kept_files : SetupValue → ℕ → List ListedFile → List ListedFile
kept_files setup column files = filter (is_kept setup column) files

-- what is made of each of the first columns, in order
abbrev pub each_column : {X : Type 0} → (ℕ → X) → ℕ → List X
each_column of count = map of (range_with_len 0 count)

-- the kept files of each column
abbrev pub kept_lists : SetupValue → List (List ListedFile) → List (List ListedFile)
kept_lists setup lists = each_column (λ d. kept_files setup d (get_or lists d [])) (length lists)
