-- Names of disks, files and folders in a configuration. The byte 47 is a slash.
use Rattle.std.specs.Prelude.{ℕ, ◌-◌, List, [], ◌∷◌, ◌++◌, length, take, Bool, true, false, ◌==◌, ◌&&◌, not, nat_le, bytes_eq, codes, if◌then◌else◌}
use Rattle.std.specs.List.{list_all}
use Rattle.disk_model.specs.Name.{is_name_byte, level_names}
use Rattle.array_setup.specs.Glob.{is_empty}
use Rattle.array_setup.specs.Keeps.{has_name}
use Rattle.array_setup.specs.Pattern.{ends_with_slash}

-- the name of a disk, as in a table
abbrev pub is_disk_name : List ℕ → Bool
is_disk_name name = nat_le 1 (length name) && nat_le (length name) 64 && list_all is_name_byte name && not (has_name level_names name)

-- a text without each slash that follows a slash; whether one stands before it
abbrev pub single_slashes : Bool → List ℕ → List ℕ
single_slashes follows [] = []
single_slashes follows (b ∷ text) =
    if b == 47 then (if follows then single_slashes true text else 47 ∷ single_slashes true text) else b ∷ single_slashes false text

-- a part without slashes and the slash behind it, unless nothing stands between two slashes
abbrev pub part_of : Bool → List ℕ → List ℕ
part_of follows part = if follows && is_empty part then [] else part ++ 47 ∷ []

-- the name of a file as a setup keeps it
abbrev pub file_name : List ℕ → List ℕ
file_name text = single_slashes false text

-- a name of a folder without the slash at its end, but for the root
abbrev pub without_end_slash : List ℕ → List ℕ
without_end_slash name = if ends_with_slash name && not (bytes_eq name (codes "/")) then take (length name - 1) name else name

abbrev pub folder_name : List ℕ → List ℕ
folder_name text = without_end_slash (file_name text)
