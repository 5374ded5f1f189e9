-- Which calls writing parity makes.
use Rattle.std.specs.Prelude.{◌≡◌, ℕ, ◌*◌, ◌==◌, List, [], ◌∷◌, length, map, if◌then◌else◌}
use Rattle.std.specs.List.{range_with_len, flat_map}
use Rattle.disk_model.specs.Files.{Files, parity_of}
use Rattle.disk_model.specs.Vault.{VaultCall, ParityLen, ParityWrite, ParitySetLen, ParitySync}
use Rattle.cauchy.specs.Matrix.{parity_of as level_of}

-- a call that asks for a level's length, or sets it to so many bytes
abbrev pub IsLengthCall : ℕ → VaultCall → Type 0
IsLengthCall bytes (ParityLen level) = Unit {0}
IsLengthCall bytes (ParitySetLen level len) = len ≡ bytes
IsLengthCall bytes _ = ⊥

-- a level is asked for its length, and where that differs from so many bytes it is set
abbrev pub level_calls : ℕ → Files → ℕ → List VaultCall
level_calls bytes files level = ParityLen level ∷ (if length (parity_of files level) == bytes then [] else ParitySetLen level bytes ∷ [])

-- so for each of the first levels, in order
abbrev pub length_calls : ℕ → ℕ → Files → List VaultCall
length_calls levels bytes files = flat_map (level_calls bytes files) (range_with_len 0 levels)

-- the write of a level's sum of a row to its block of a stripe
abbrev pub sum_call : ℕ → ℕ → List (List ℕ) → ℕ → VaultCall
sum_call block_size stripe row level = ParityWrite level (stripe * block_size) (level_of level block_size row)

-- one such write to each of the first levels, in order
abbrev pub sum_calls : ℕ → ℕ → ℕ → List (List ℕ) → List VaultCall
sum_calls levels block_size stripe row = map (sum_call block_size stripe row) (range_with_len 0 levels)

-- one sync of each of the first levels, in order
abbrev pub sync_calls : ℕ → List VaultCall
sync_calls levels = map ParitySync (range_with_len 0 levels)
