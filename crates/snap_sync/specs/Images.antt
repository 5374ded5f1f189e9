-- What stands in the copies and in parity at each moment of a sync, whatever it answers and wherever it is stopped.
use Rattle.std.specs.Prelude.{◌≡◌, ◌⊎◌, ℕ, ◌+◌, ◌*◌, ◌<◌, ◌≤◌, List, length, take, Some}
use Rattle.content_file.specs.Save.{MaySave}
use Rattle.content_file.specs.Spelling.{spelling}
use Rattle.disk_model.specs.Bytes.{resized}
use Rattle.disk_model.specs.Files.{Files, parity_of, content_of}
use Rattle.file_table.specs.Table.{TableValue}
use Rattle.parity_writer.specs.Keeps.{HasByte, IsOutside}
use Rattle.parity_writer.specs.Parity.{Rows, HoldsRows, Row}
use Rattle.parity_writer.specs.Sound.{IsSynced}
use Rattle.snap_sync.specs.Calls.{SyncPlan, level_bytes}
use Rattle.snap_sync.specs.Closing.{closed, rows_of}
use Rattle.stripe_findings.specs.Reading.{StripeReading}

-- a place in the block of a stripe that a table calls synced
pub record IsInSynced (table : TableValue) (i : ℕ) : Type 0 where
  pub stripe : ℕ
  pub synced : IsSynced table stripe
  pub behind : stripe * table.shape.block_size ≤ i
  pub before : i < stripe * table.shape.block_size + table.shape.block_size

-- each byte of a stripe that a table calls synced stays
pub record KeepsSynced (table : TableValue) (old new : Files) : Type 0 where
  pub bytes : (level i x : ℕ) → IsInSynced table i → HasByte (parity_of old level) i x → HasByte (parity_of new level) i x

-- the table after the first so many stripes that were read, and the rows of these
abbrev pub table_after : SyncPlan → List StripeReading → ℕ → TableValue
table_after plan readings count = closed plan.now plan.start (take count readings)

abbrev pub rows_after : SyncPlan → List StripeReading → ℕ → Rows
rows_after plan readings count = rows_of plan.start (take count readings)

-- each copy spells one of two tables
abbrev pub SpellsEither : ℕ → TableValue → TableValue → Files → Type 0
SpellsEither copies one other files = (copy : ℕ) → copy < copies →
    (content_of files copy ≡ Some (spelling one)) ⊎ (content_of files copy ≡ Some (spelling other))

-- At work: a table is in every copy, closed by the first c stripes that were read, or is being replaced by one that is closed by the
-- first k. Parity has the rows of these k, and each byte of a stripe that the laid out table calls synced is as it was.
pub record IsAtWork (plan : SyncPlan) (readings : List StripeReading) (c k : ℕ) (old new : Files) : Type 0 where
  pub order : c ≤ k
  pub within : k ≤ length readings
  pub copies : SpellsEither plan.copies (table_after plan readings c) (table_after plan readings k) new
  pub rows : HoldsRows plan.start.shape.levels plan.start.shape.block_size (rows_after plan readings k) new
  pub kept : KeepsSynced plan.start old new

-- What files at a moment of a sync are, by files at its start: the laid out table is being saved and parity is as it was, or the sync is at work.
pub data MayStand (plan : SyncPlan) (readings : List StripeReading) (old new : Files) : Type 0 where
  Opening : MaySave (spelling plan.start) old new → MayStand plan readings old new
  AtWork : (c k : ℕ) → IsAtWork plan readings c k old new → MayStand plan readings old new

-- The same by how many of the stripes that were read have their rows in parity: none while the laid out table is being saved.
abbrev pub StandsBy : SyncPlan → List StripeReading → ℕ → Files → Files → Type 0
StandsBy plan readings count old new =
    ((count ≡ 0) × MaySave (spelling plan.start) old new) ⊎ ((c : ℕ) × IsAtWork plan readings c count old new)

-- a place outside of the blocks of the stripes that have a row
abbrev pub IsOutsideRows : ℕ → Rows → ℕ → Type 0
IsOutsideRows block_size rows i = (stripe : ℕ) (row : Row) → rows stripe ≡ Some row → IsOutside block_size stripe i

-- Parity after a sync: each level has this length in bytes, each stripe that has a row has its sums, and all other bytes stay; added ones are zero.
pub record HasParity (levels block_size bytes : ℕ) (rows : Rows) (old new : Files) : Type 0 where
  pub lengths : (level : ℕ) → level < levels → length (parity_of new level) ≡ bytes
  pub rows_held : HoldsRows levels block_size rows new
  pub others : (level i x : ℕ) → level < levels → IsOutsideRows block_size rows i → HasByte (resized (parity_of old level) bytes) i x → HasByte (parity_of new level) i x

-- parity after the first so many stripes that were read
abbrev pub HasParityAfter : SyncPlan → List StripeReading → ℕ → Files → Files → Type 0
HasParityAfter plan readings count old new =
    HasParity plan.start.shape.levels plan.start.shape.block_size (level_bytes plan.start) (rows_after plan readings count) old new
