-- Which files of a data disk are kept.
use Rattle.std.specs.Prelude.{ℕ, ◌-◌, List, [], ◌∷◌, ◌++◌, length, map, find, get_or, slice_get, Bool, false, true, ◌==◌, ◌&&◌, not, nat_le, nat_eq, bytes_eq, codes, if◌then◌else◌, unwrap_or, option_map, option_to_list}
use Rattle.std.specs.List.{list_all, list_any, ends_with}
use Rattle.disk_model.specs.Path.{components, lost_suffix}
use Rattle.array_setup.specs.Matching.{matches}
use Rattle.array_setup.specs.Setup.{SetupValue}
use Rattle.array_setup.specs.declared.setup.Disk.{Disk}
use Rattle.array_setup.specs.declared.setup.Rule.{Rule}

-- a record may have this valid path: it leaves room for the name of its lost file, and is the name of none
abbrev pub is_recordable : List ℕ → Bool
is_recordable path = nat_le (length path) 4082 && list_all (λ part. not (ends_with nat_eq part lost_suffix)) (components path)

-- the name of a content file's draft
abbrev pub draft_name : List ℕ → List ℕ
draft_name content = content ++ codes ".tmp"

-- the array's own files: its parity files, its content files and their drafts, and the log
abbrev pub own_names : SetupValue → List (List ℕ)
own_names setup = setup.parities ++ (setup.contents ++ (map draft_name setup.contents ++ option_to_list setup.log))

-- the full name of a file of a folder
abbrev pub full_name : List ℕ → List ℕ → List ℕ
full_name dir path = (if bytes_eq dir (codes "/") then [] else dir) ++ 47 ∷ path

-- a name is among these
abbrev pub has_name : List (List ℕ) → List ℕ → Bool
has_name names name = list_any (λ own. bytes_eq own name) names

-- a component begins with a dot
abbrev pub starts_with_dot : List ℕ → Bool
starts_with_dot [] = false
starts_with_dot (b ∷ part) = b == 46

abbrev pub is_hidden : List ℕ → Bool
is_hidden path = list_any starts_with_dot (components path)

-- A path that no rule matches is kept where the last rule leaves files out, or there is none.
abbrev pub keeps_unmatched : List Rule → Bool
keeps_unmatched rules = unwrap_or (option_map (λ (rule : Rule). not rule.include) (slice_get rules (length rules - 1))) true

-- the first rule that matches decides
abbrev pub filter_keeps : List Rule → List ℕ → Bool
filter_keeps rules path =
    unwrap_or (option_map (λ (rule : Rule). rule.include) (find (λ (rule : Rule). matches rule.pattern path) rules)) (keeps_unmatched rules)

-- the folder of a column
abbrev pub dir_of : SetupValue → ℕ → List ℕ
dir_of setup column = get_or (map (λ (disk : Disk). disk.dir) setup.disks) column []

-- A file of a column is kept: a record may have its path, it is none of the array's own files,
-- it is not hidden where hidden files are left out, and the rules keep it.
abbrev pub keeps : SetupValue → ℕ → List ℕ → Bool
keeps setup column path =
    is_recordable path && not (has_name (own_names setup) (full_name (dir_of setup column) path)) && not (setup.nohidden && is_hidden path)
    && filter_keeps setup.rules path
