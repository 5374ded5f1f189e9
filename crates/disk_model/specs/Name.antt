-- Names of data disks.
use Rattle.std.specs.Prelude.{ℕ, ◌≤◌, ◌==◌, ◌||◌, ◌&&◌, List, [], ◌∷◌, length, Bool, IsTrue, Contains, codes, nat_le}
use Rattle.std.specs.List.{list_all}

-- a byte that may stand in a disk's name: an ASCII letter, a digit, `_`, `-` or `.`
abbrev pub is_name_byte : ℕ → Bool
is_name_byte b = (nat_le 97 b && nat_le b 122) || (nat_le 65 b && nat_le b 90) || (nat_le 48 b && nat_le b 57) || (b == 95) || (b == 45) || (b == 46)

-- the names of the parity levels, which no disk may have
abbrev pub level_names : List (List ℕ)
level_names = codes "parity" ∷ codes "2-parity" ∷ codes "3-parity" ∷ codes "4-parity" ∷ codes "5-parity" ∷ codes "6-parity" ∷ []

-- a disk's name: 1 to 64 such bytes, and not the name of a level
pub record IsName (name : List ℕ) : Type 0 where
  pub some : 1 ≤ length name
  pub short : length name ≤ 64
  pub bytes : IsTrue (list_all is_name_byte name)
  pub no_level : ¬ (Contains level_names name)
