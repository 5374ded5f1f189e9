-- Which names of disks and levels are known to a configuration.
use Rattle.std.specs.Prelude.{ℕ, ◌&&◌, ◌||◌, nat_lt, List, [], ◌∷◌, length, get_or, bytes_eq, Bool, if◌then◌else◌, Option, None, Some}
use Rattle.std.specs.List.{list_any, range_with_len}
use Rattle.disk_model.specs.Name.{level_names}
use Rattle.array_setup.specs.Setup.{SetupValue}
use Rattle.snap_config.specs.declared.options.Command.{Command}
use Rattle.snap_config.specs.declared.options.Command.TheVariants as commands
use Rattle.array_setup.specs.declared.setup.Disk.{Disk}

-- one of its disks has this name, or one of its levels
abbrev pub names_disk : SetupValue → List ℕ → Bool
names_disk setup name = list_any (λ (disk : Disk). bytes_eq disk.name name) setup.disks

abbrev pub is_level : ℕ → List ℕ → ℕ → Bool
is_level count name r = nat_lt r count && bytes_eq (get_or level_names r []) name

abbrev pub names_level : SetupValue → List ℕ → Bool
names_level setup name = list_any (is_level (length setup.parts) name) (range_with_len 0 6)

abbrev pub is_known : SetupValue → List ℕ → Bool
is_known setup name = names_disk setup name || names_level setup name

-- the first of these names that none has
abbrev pub first_unknown : SetupValue → List (List ℕ) → Option (List ℕ)
first_unknown setup [] = None
first_unknown setup (name ∷ names) = if is_known setup name then first_unknown setup names else Some name

-- the names that a command selects, and the first of them that is unknown
abbrev pub selected_names : Command → List (List ℕ)
selected_names (commands.Check selection) = selection.disks
selected_names (commands.Audit selection) = selection.disks
selected_names (commands.Fix selection) = selection.disks
selected_names _ = []

abbrev pub unknown_in : SetupValue → Command → Option (List ℕ)
unknown_in setup command = first_unknown setup (selected_names command)
