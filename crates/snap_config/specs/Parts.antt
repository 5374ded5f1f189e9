-- The files of a parity line: the parts of its level, with commas between them. The byte 44 is a comma.
use Rattle.std.specs.Prelude.{ℕ, List, length, map, ◌==◌, ◌≤◌, filter_map, flat_map, ◌*◌, ◌/◌}
use Rattle.std.specs.List.{slice_split}
use Rattle.snap_config.specs.Names.{file_name}

-- the texts between the commas
abbrev pub line_parts : List ℕ → List (List ℕ)
line_parts argument = slice_split (λ b. b == 44) argument

-- the files that a line names
abbrev pub line_files : List ℕ → List (List ℕ)
line_files argument = map file_name (line_parts argument)

-- a level has 1 to 8 files
pub record MayBeParts (files : List (List ℕ)) : Type 0 where
  pub some : 1 ≤ length files
  pub few : length files ≤ 8

-- how many bytes each part but the last of its level holds: as many whole blocks as there is room for
abbrev pub capacity_of : ℕ → ℕ → ℕ
capacity_of block_size room = room / block_size * block_size
