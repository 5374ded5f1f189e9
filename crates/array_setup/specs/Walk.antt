-- How a pattern is walked along a name.
use Rattle.std.specs.Prelude.{◌≡◌, ℕ, ◌<◌, List, [], ◌∷◌, ◌++◌, length, chars, IsUtf8, Option, None, Some, is_some, false, if◌then◌else◌}
use Rattle.array_setup.specs.Glob.{stands_for}
use Rattle.array_setup.specs.Pattern.{has_byte}

-- a text is cut at the first of a byte
pub record IsCut (byte : ℕ) (whole before after : List ℕ) : Type 0 where
  pub front : IsUtf8 before
  pub back : IsUtf8 after
  pub spelled : whole ≡ before ++ byte ∷ after
  pub first : has_byte byte before ≡ false

-- a text's first character and the rest, and its last one and what stands before
pub record IsFirstOf (whole : List ℕ) (first : ℕ) (rest : List ℕ) : Type 0 where
  pub text : IsUtf8 rest
  pub chars : chars whole ≡ first ∷ chars rest
  pub shorter : length rest < length whole

pub record IsLastOf (whole before : List ℕ) (last : ℕ) : Type 0 where
  pub text : IsUtf8 before
  pub chars : chars whole ≡ chars before ++ last ∷ []
  pub shorter : length before < length whole

-- what is left of a name where a part without a star is taken off its front
abbrev pub strip : List ℕ → List ℕ → Option (List ℕ)
strip [] name = Some name
strip (p ∷ part) [] = None
strip (p ∷ part) (c ∷ name) = if stands_for p c then strip part name else None

-- what is left at the first place where it can be taken off
abbrev pub first_strip : List ℕ → List ℕ → Option (List ℕ)
first_strip part [] = strip part []
first_strip part (c ∷ name) = if is_some (strip part (c ∷ name)) then strip part (c ∷ name) else first_strip part name
