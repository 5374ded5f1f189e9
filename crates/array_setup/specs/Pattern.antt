-- Which texts are patterns. The byte 42 is a star, 47 a slash, 91 an opening bracket.
use Rattle.std.specs.Prelude.{ℕ, ◌-◌, List, [], ◌∷◌, length, take, codes, Bool, false, ◌==◌, ◌&&◌, ◌||◌, not, bytes_eq}
use Rattle.std.specs.List.{list_any}

-- a byte is among these
abbrev pub has_byte : ℕ → List ℕ → Bool
has_byte byte text = list_any (λ b. b == byte) text

-- a byte stands twice side by side
abbrev pub has_pair : ℕ → List ℕ → Bool
has_pair byte [] = false
has_pair byte (a ∷ []) = false
has_pair byte (a ∷ b ∷ rest) = (a == byte && b == byte) || has_pair byte (b ∷ rest)

-- a slash stands at the front, at the end, and before the last byte
abbrev pub starts_with_slash : List ℕ → Bool
starts_with_slash [] = false
starts_with_slash (b ∷ rest) = b == 47

abbrev pub ends_with_slash : List ℕ → Bool
ends_with_slash [] = false
ends_with_slash (b ∷ []) = b == 47
ends_with_slash (a ∷ b ∷ rest) = ends_with_slash (b ∷ rest)

abbrev pub has_slash_inside : List ℕ → Bool
has_slash_inside text = has_byte 47 (take (length text - 1) text)

-- A pattern is neither empty nor `/` alone, has no `[`, no `**` and no `//`, and no slash inside without one at its front.
abbrev pub is_pattern : List ℕ → Bool
is_pattern text =
    not (bytes_eq text []) && not (bytes_eq text (codes "/")) && not (has_byte 91 text) && not (has_pair 42 text) && not (has_pair 47 text)
    && (starts_with_slash text || not (has_slash_inside text))
