-- What parity files hold: rows of blocks, byte by byte. A row is given to each stripe that has one.
use Rattle.std.specs.Prelude.{◌≡◌, ℕ, ◌+◌, ◌*◌, ◌<◌, ◌≤◌, ◌==◌, List, length, map, slice_index, if◌then◌else◌, Option, None, Some}
use Rattle.cauchy.specs.Matrix.{parity_byte}
use Rattle.disk_model.specs.Bytes.{resized}
use Rattle.disk_model.specs.Files.{Files, parity_of}
use Rattle.parity_writer.specs.Keeps.{HasByte, KeepsAt, IsOutside}

-- the blocks of a stripe, column by column
abbrev pub Row : Type 0
Row = List (List ℕ)

-- the row with each block padded with zeros
abbrev pub padded : ℕ → Row → Row
padded block_size row = map (λ (block : List ℕ). resized block block_size) row

-- a row for each stripe that has one
abbrev pub Rows : Type 0
Rows = ℕ → Option Row

-- no stripe has a row
abbrev pub no_rows : Rows
no_rows stripe = None

-- the same rows, but for this one at a stripe
abbrev pub with_row : ℕ → Row → Rows → Rows
with_row at row rows stripe = if stripe == at then Some row else rows stripe

-- the block of a stripe in a level's file is this level of a row
abbrev pub HasLevel : ℕ → ℕ → ℕ → Row → List ℕ → Type 0
HasLevel block_size level stripe row file = (i : ℕ) → i < block_size → HasByte file (stripe * block_size + i) (parity_byte level row i)

-- the first levels hold each stripe that has a row
pub record HoldsRows (levels block_size : ℕ) (rows : Rows) (files : Files) : Type 0 where
  pub level : (level stripe : ℕ) (row : Row) → level < levels → rows stripe ≡ Some row → HasLevel block_size level stripe row (parity_of files level)

-- a place outside of the blocks of such stripes
abbrev pub IsOutsideAll : ℕ → (ℕ → Type 0) → ℕ → Type 0
IsOutsideAll block_size IsOne i = (stripe : ℕ) → IsOne stripe → IsOutside block_size stripe i

-- Writes of the blocks of such stripes: the copies stay, and so does each byte outside of these blocks; no level
-- grows past their ends.
pub record WritesBlocks (block_size : ℕ) (IsOne : ℕ → Type 0) (old new : Files) : Type 0 where
  pub keeps : KeepsAt (IsOutsideAll block_size IsOne) old new
  pub no_longer : (level end : ℕ) → length (parity_of old level) ≤ end
      → ((stripe : ℕ) → IsOne stripe → stripe * block_size + block_size ≤ end) → length (parity_of new level) ≤ end

-- Outside of the blocks of such stripes each byte of the first levels is as before, and one that was added is zero.
pub record SameElsewhere (levels block_size : ℕ) (IsOne : ℕ → Type 0) (old new : Files) : Type 0 where
  pub no_shorter : (level : ℕ) → level < levels → length (parity_of old level) ≤ length (parity_of new level)
  pub bytes : (level i : ℕ) → level < levels → IsOutsideAll block_size IsOne i
      → slice_index (parity_of new level) i ≡ slice_index (parity_of old level) i

-- the stripe has a row
abbrev pub HasRow : Rows → ℕ → Type 0
HasRow rows stripe = (row : Row) × (rows stripe ≡ Some row)

-- The first levels are so many bytes long and hold each stripe that has a row. Each other byte is as in the files of
-- the start, and zero where it was added.
pub record IsParityOver (levels block_size bytes : ℕ) (rows : Rows) (start files : Files) : Type 0 where
  pub long : (level : ℕ) → level < levels → length (parity_of files level) ≡ bytes
  pub holds : HoldsRows levels block_size rows files
  pub others : (level i : ℕ) → level < levels → i < bytes → IsOutsideAll block_size (HasRow rows) i
      → slice_index (parity_of files level) i ≡ slice_index (parity_of start level) i
