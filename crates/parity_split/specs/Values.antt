-- What bytes are after a call that went well, place by place: past the end of a file stand zeros.
use Rattle.std.specs.Prelude.{◌≡◌, ◌⊎◌, ℕ, ◌+◌, ◌-◌, ◌<◌, ◌≤◌, max, List, length, slice_index}

-- the same bytes below a place
abbrev pub SameBelow : ℕ → List ℕ → List ℕ → Type 0
SameBelow n old new = (i : ℕ) → i < n → slice_index new i ≡ slice_index old i

-- the same bytes at each place
abbrev pub SameValues : List ℕ → List ℕ → Type 0
SameValues old new = (i : ℕ) → slice_index new i ≡ slice_index old i

-- cut or extended with zeros
pub record IsResized (len : ℕ) (old new : List ℕ) : Type 0 where
  pub long : length new ≡ len
  pub same : SameBelow len old new

-- these bytes were written from a place on, with zeros before them
pub record IsPut (at : ℕ) (bytes : List ℕ) (old new : List ℕ) : Type 0 where
  pub long : length new ≡ max (length old) (at + length bytes)
  pub inside : (i : ℕ) → at ≤ i → i < at + length bytes → slice_index new i ≡ slice_index bytes (i - at)
  pub outside : (i : ℕ) → (i < at) ⊎ (at + length bytes ≤ i) → slice_index new i ≡ slice_index old i

-- of these bytes those below a place were written over others
pub record IsPutBelow (end at : ℕ) (bytes : List ℕ) (old new : List ℕ) : Type 0 where
  pub long : length new ≡ length old
  pub inside : (i : ℕ) → at ≤ i → i < at + length bytes → i < end → slice_index new i ≡ slice_index bytes (i - at)
  pub outside : (i : ℕ) → (at ≤ i → i < at + length bytes → end ≤ i) → slice_index new i ≡ slice_index old i

-- All bytes of a part that lie from a place of the level up to another are there, each where it belongs in a front of the bytes from
-- the first place on.
pub record PieceIsThere (at to start : ℕ) (part : List ℕ) (there : ℕ) (out : List ℕ) : Type 0 where
  pub all : there ≡ to - at
  pub values : (k : ℕ) → start ≤ at + k → at + k < to → slice_index out k ≡ slice_index part (at + k - start)

-- all bytes from a place up to another are there
pub record IsThere (at to : ℕ) (level : List ℕ) (there : ℕ) (out : List ℕ) : Type 0 where
  pub all : there ≡ to - at
  pub values : (k : ℕ) → at + k < to → slice_index out k ≡ slice_index level (at + k)
