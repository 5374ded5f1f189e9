-- How the parts of a level as they read, and as a stop may leave them, keep in step.
use Rattle.std.specs.Prelude.{◌≡◌, ℕ, ◌+◌, ◌<◌, ◌≤◌, max, List, length}
use Rattle.parity_split.specs.Joined.{part_of}

-- the part where a level ends: the first that isn't full, or the last
pub record IsEnd (capacity i : ℕ) (parts : List (List ℕ)) : Type 0 where
  pub within : i < length parts
  pub full : (j : ℕ) → j < i → capacity ≤ length (part_of parts j)
  pub ends : i + 1 < length parts → length (part_of parts i) < capacity

-- Near the part where a level ends, as it reads: the parts that a stop leaves are full before the one before it, and where
-- that one isn't full nothing stands behind it.
pub record IsNear (capacity i : ℕ) (reads parts : List (List ℕ)) : Type 0 where
  pub within : i < length reads
  pub same_count : length parts ≡ length reads
  pub read : (j : ℕ) → j < i → capacity ≤ length (part_of reads j)
  pub full : (j : ℕ) → j + 1 < i → capacity ≤ length (part_of parts j)
  pub solid : (j : ℕ) → j + 1 ≡ i → 0 < length (part_of reads i) → capacity ≤ length (part_of parts j)
  pub gap : (j : ℕ) → j + 1 ≡ i → length (part_of parts j) < capacity → length (part_of parts i) ≡ 0
  pub next : i + 1 < length reads → capacity ≤ max (length (part_of reads i)) (length (part_of parts i))
      → length (part_of parts (i + 1)) ≡ 0

-- the parts that a stop leaves keep in step with those that are read
abbrev pub InStep : ℕ → List (List ℕ) → List (List ℕ) → Type 0
InStep capacity reads parts = (i : ℕ) → IsEnd capacity i reads → IsNear capacity i reads parts

-- A part may get this length: all before it are full, also after a stop, and nothing stands behind it where it may become full.
pub record IsReady (capacity i len : ℕ) (reads parts : List (List ℕ)) : Type 0 where
  pub within : i < length reads
  pub same_count : length parts ≡ length reads
  pub read : (j : ℕ) → j < i → capacity ≤ length (part_of reads j)
  pub full : (j : ℕ) → j < i → capacity ≤ length (part_of parts j)
  pub next : i + 1 < length reads → capacity ≤ max len (max (length (part_of reads i)) (length (part_of parts i)))
      → length (part_of parts (i + 1)) ≡ 0
