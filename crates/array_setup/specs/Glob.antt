-- Which names a pattern fits, both as lists of characters. The character 42 is a star, 47 a slash, 63 a question mark.
use Rattle.std.specs.Prelude.{ℕ, List, [], ◌∷◌, chars, Bool, true, false, ◌==◌, ◌&&◌, ◌||◌, not, if◌then◌else◌}

-- a star: no character, or one that isn't a slash and the star again, before what the rest of the pattern fits
abbrev pub star : (List ℕ → Bool) → List ℕ → Bool
star rest [] = rest []
star rest (c ∷ name) = rest (c ∷ name) || (not (c == 47) && star rest name)

-- what one character of a pattern that isn't a star stands for: a question mark for any that isn't a slash, another for itself
abbrev pub stands_for : ℕ → ℕ → Bool
stands_for p c = if p == 63 then not (c == 47) else c == p

-- such a character, before what the rest fits
abbrev pub single : ℕ → (List ℕ → Bool) → List ℕ → Bool
single p rest [] = false
single p rest (c ∷ name) = stands_for p c && rest name

abbrev pub is_empty : List ℕ → Bool
is_empty [] = true
is_empty (c ∷ name) = false

-- the pattern fits the whole name
unfoldable pub fits : List ℕ → List ℕ → Bool
fits [] name = is_empty name
fits (p ∷ rest) name = if p == 42 then star (fits rest) name else single p (fits rest) name

-- the same of texts
abbrev pub fits_text : List ℕ → List ℕ → Bool
fits_text pattern name = fits (chars pattern) (chars name)
