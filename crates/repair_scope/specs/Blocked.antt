-- What was listed under a path, and whether anything stands in the way of the file of a record.
use Rattle.std.specs.Prelude.{ℕ, ◌&&◌, ◌||◌, not, is_some, List, [], ◌∷◌, bytes_eq, Bool, true, if◌then◌else◌, Option, None, Some}
use Rattle.std.specs.List.{list_any}
use Rattle.disk_model.specs.Tree.{is_directory_of, path_of}
use Rattle.disk_model.specs.declared.meta.Meta.{Meta}
use Rattle.folder_listing.specs.Kept.{ListedFile}

-- size and stamp of the file of a path, if it was listed
abbrev pub found_in : List ListedFile → List ℕ → Option Meta
found_in [] path = None
found_in (file ∷ files) path = if bytes_eq file.0 path then Some file.1 else found_in files path

-- one of these files is a directory of the path, and the path is a directory of one of them
abbrev pub is_inside_one : List ListedFile → List ℕ → Bool
is_inside_one files path = list_any (λ (file : ListedFile). is_directory_of file.0 path) files

abbrev pub holds_one : List ListedFile → List ℕ → Bool
holds_one files path = list_any (λ (file : ListedFile). is_directory_of path file.0) files

-- A record is blocked where PATH is no file and a file stands in its way, or where PATH`.unrecoverable` is a directory
-- of a file.
abbrev pub is_blocked : List ListedFile → List ℕ → Bool
is_blocked files path =
    (not (is_some (found_in files path)) && (is_inside_one files path || holds_one files path))
    || holds_one files (path_of path true)
