-- Which paths a pattern matches.
use Rattle.std.specs.Prelude.{ℕ, ◌-◌, List, [], ◌∷◌, ◌++◌, length, take, map, Bool, ◌==◌, if◌then◌else◌}
use Rattle.std.specs.List.{list_any}
use Rattle.disk_model.specs.Path.{components}
use Rattle.array_setup.specs.Glob.{fits_text}
use Rattle.array_setup.specs.Pattern.{starts_with_slash, ends_with_slash}

-- the last of these parts, and those before it
abbrev pub last_part : List (List ℕ) → List ℕ
last_part [] = []
last_part (part ∷ []) = part
last_part (part ∷ next ∷ parts) = last_part (next ∷ parts)

abbrev pub parts_before_last : List (List ℕ) → List (List ℕ)
parts_before_last [] = []
parts_before_last (part ∷ []) = []
parts_before_last (part ∷ next ∷ parts) = part ∷ parts_before_last (next ∷ parts)

-- the directories of a path: what stands before each of its slashes
abbrev pub directories : List ℕ → List (List ℕ)
directories [] = []
directories (b ∷ path) = if b == 47 then [] ∷ map (λ d. b ∷ d) (directories path) else map (λ d. b ∷ d) (directories path)

-- `FILE`: the last component fits
abbrev pub matches_name : List ℕ → List ℕ → Bool
matches_name pattern path = fits_text pattern (last_part (components path))

-- `DIR/`: a component that isn't the last one fits
abbrev pub matches_directory : List ℕ → List ℕ → Bool
matches_directory pattern path = list_any (fits_text (take (length pattern - 1) pattern)) (parts_before_last (components path))

-- `/PATH/FILE`: a slash and the path fit
abbrev pub matches_whole : List ℕ → List ℕ → Bool
matches_whole pattern path = fits_text pattern (47 ∷ path)

-- `/PATH/DIR/`: a slash, a directory of the path and a slash fit
abbrev pub matches_whole_directory : List ℕ → List ℕ → Bool
matches_whole_directory pattern path = list_any (λ d. fits_text pattern (47 ∷ (d ++ 47 ∷ []))) (directories path)

-- a pattern matches a path, by where it has slashes
abbrev pub matches : List ℕ → List ℕ → Bool
matches pattern path =
    if starts_with_slash pattern
    then (if ends_with_slash pattern then matches_whole_directory pattern path else matches_whole pattern path)
    else (if ends_with_slash pattern then matches_directory pattern path else matches_name pattern path)

-- the same behind the first slash of a pattern that begins with one
abbrev pub matches_below : List ℕ → List ℕ → Bool
matches_below pattern path =
    if ends_with_slash pattern then list_any (λ d. fits_text pattern (d ++ 47 ∷ [])) (directories path) else fits_text pattern path
