-- What stays of parity files and content copies.
use Rattle.std.specs.Prelude.{◌≡◌, ◌⊎◌, ℕ, ◌+◌, ◌*◌, ◌<◌, ◌≤◌, max, List, length, slice_index}
use Rattle.disk_model.specs.Files.{Files, parity_of}

-- the file has this byte there
pub record HasByte (file : List ℕ) (i x : ℕ) : Type 0 where
  pub within : i < length file
  pub is : slice_index file i ≡ x

-- the copies stay, and so does each byte of a level that stands at a place with P
pub record KeepsAt (P : ℕ → Type 0) (old new : Files) : Type 0 where
  pub contents : new.contents ≡ old.contents
  pub bytes : (level i x : ℕ) → P i → HasByte (parity_of old level) i x → HasByte (parity_of new level) i x

-- a place outside of the block of a stripe
abbrev pub IsOutside : ℕ → ℕ → ℕ → Type 0
IsOutside block_size stripe i = (i < stripe * block_size) ⊎ (stripe * block_size + block_size ≤ i)

-- the first levels are as in these files
abbrev pub SameParities : ℕ → Files → Files → Type 0
SameParities levels files others = (level : ℕ) → level < levels → parity_of others level ≡ parity_of files level

-- A write of a stripe's block: the copies stay, and so does each byte outside of the block; no level grows past the
-- end of the block.
pub record WritesBlock (block_size stripe : ℕ) (old new : Files) : Type 0 where
  pub keeps : KeepsAt (IsOutside block_size stripe) old new
  pub no_longer : (level : ℕ) → length (parity_of new level) ≤ max (length (parity_of old level)) (stripe * block_size + block_size)
