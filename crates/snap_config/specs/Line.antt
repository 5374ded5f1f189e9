-- The lines of a configuration. The byte 9 is a tab, 10 a line feed, 13 a carriage return, 32 a space, 35 the sign of a comment.
use Rattle.std.specs.Prelude.{◌≡◌, ◌<◌, ℕ, length, List, [], ◌∷◌, take, drop, Bool, true, false, ◌==◌, ◌&&◌, ◌||◌, if◌then◌else◌}
use Rattle.std.specs.List.{slice_split, position_or_len}
use Rattle.array_setup.specs.Glob.{is_empty}

-- the parts between line feeds; what stands behind the last one is a line too, and says nothing where it is empty
abbrev pub lines_of : List ℕ → List (List ℕ)
lines_of bytes = slice_split (λ b. b == 10) bytes

-- a text is a line, a line feed and what follows it
pub record IsLine (text line after : List ℕ) : Type 0 where
  pub lines : lines_of text ≡ line ∷ lines_of after
  pub shorter : length after < length text

-- a line without one carriage return at its end
abbrev pub without_return : List ℕ → List ℕ
without_return [] = []
without_return (b ∷ []) = if b == 13 then [] else b ∷ []
without_return (a ∷ b ∷ line) = a ∷ without_return (b ∷ line)

-- a text without the spaces and tabs at its front, and at its end
abbrev pub is_blank : ℕ → Bool
is_blank b = b == 32 || b == 9

abbrev pub starts_with_blank : List ℕ → Bool
starts_with_blank [] = false
starts_with_blank (b ∷ text) = is_blank b

abbrev pub ends_with_blank : List ℕ → Bool
ends_with_blank [] = false
ends_with_blank (b ∷ []) = is_blank b
ends_with_blank (a ∷ b ∷ text) = ends_with_blank (b ∷ text)

abbrev pub trim_front : List ℕ → List ℕ
trim_front [] = []
trim_front (b ∷ text) = if is_blank b then trim_front text else b ∷ text

abbrev pub trim_end : List ℕ → List ℕ
trim_end [] = []
trim_end (b ∷ text) = if is_blank b && is_empty (trim_end text) then [] else b ∷ trim_end text

-- what a line says
abbrev pub content_of : List ℕ → List ℕ
content_of line = trim_front (trim_end (without_return line))

-- nothing, or a comment
abbrev pub is_skipped : List ℕ → Bool
is_skipped [] = true
is_skipped (b ∷ content) = b == 35

-- the text up to the first space or tab, and the rest without the spaces and tabs at its front
abbrev pub first_word : List ℕ → List ℕ
first_word text = take (position_or_len is_blank text) text

abbrev pub after_word : List ℕ → List ℕ
after_word text = trim_front (drop (position_or_len is_blank text) text)
