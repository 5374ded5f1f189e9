-- The parity of a row of blocks, written.
use Rattle.std.specs.Prelude.{◌≡◌, ℕ, ◌*◌, ◌<◌, List}
use Rattle.disk_model.specs.Bytes.{put, resized}
use Rattle.disk_model.specs.Files.{Files, parity_of}
use Rattle.cauchy.specs.Matrix.{parity_of as level_of}

-- the first levels are cut to so many bytes, or extended to them with zeros
abbrev pub HasLengths : ℕ → ℕ → Files → Files → Type 0
HasLengths levels bytes old new = (level : ℕ) → level < levels → parity_of new level ≡ resized (parity_of old level) bytes

-- the first levels have the sums of a row in the block of a stripe
abbrev pub HasSums : ℕ → ℕ → ℕ → List (List ℕ) → Files → Files → Type 0
HasSums levels block_size stripe row old new = (level : ℕ) → level < levels →
    parity_of new level ≡ put (parity_of old level) (stripe * block_size) (level_of level block_size row)
