-- What a check or a fix is to work on.
use Rattle.std.specs.Prelude.{ℕ, ◌&&◌, ◌||◌, not, is_some, List, [], ◌∷◌, get_or, bytes_eq, Bool, true, false, Option, None, Some}
use Rattle.std.specs.List.{list_any}
use Rattle.disk_model.specs.Name.{level_names}
use Rattle.disk_model.specs.declared.meta.Meta.{Meta}
use Rattle.folder_listing.specs.Kept.{same_meta}
use Rattle.file_table.specs.Table.{Record}
use Rattle.array_setup.specs.Matching.{matches}
use Rattle.array_setup.specs.declared.ways.Selection.{Selection}

-- nothing is in a list
abbrev pub has_none : List (List ℕ) → Bool
has_none [] = true
has_none (text ∷ texts) = false

-- one of the names is this one
abbrev pub is_named : List (List ℕ) → List ℕ → Bool
is_named names name = list_any (bytes_eq name) names

-- a disk of this name is meant, and a file of this path
abbrev pub means_disk : Selection → List ℕ → Bool
means_disk selection name = has_none selection.disks || is_named selection.disks name

abbrev pub means_path : Selection → List ℕ → Bool
means_path selection path = has_none selection.patterns || list_any (λ pattern. matches pattern path) selection.patterns

-- a file was listed with this size and stamp
abbrev pub is_as_recorded : Meta → Option Meta → Bool
is_as_recorded meta None = false
is_as_recorded meta (Some found) = same_meta found meta

-- A record of a disk is selected: its disk and its path are meant, its file is missing if only missing ones are meant, and
-- stands as it was recorded if only what is known to be bad is meant. `found` is what was listed under PATH.
abbrev pub selects : Selection → List ℕ → Record → Option Meta → Bool
selects selection name kept found =
    means_disk selection name && means_path selection kept.path
    && (not selection.missing || not (is_some found))
    && (not selection.errors || is_as_recorded kept.meta found)

-- A level is meant: nothing is left out by disk, path or absence, or the level is named by its keyword.
abbrev pub means_all : Selection → Bool
means_all selection = has_none selection.disks && has_none selection.patterns && not selection.missing

abbrev pub means_level : Selection → ℕ → Bool
means_level selection level = means_all selection || is_named selection.disks (get_or level_names level [])
