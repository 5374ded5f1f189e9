-- What was last synced, and what of it was changed from outside since.
use Rattle.std.specs.Prelude.{◌≡◌, ◌⊎◌, ℕ, ◌+◌, ◌*◌, ◌<◌, ◌≤◌, All, Bool, false}
use Rattle.cauchy.specs.Recovery.{AreBytes}
use Rattle.content_file.specs.Spelling.{HoldsTable}
use Rattle.disk_model.specs.Files.{Files, content_of, parity_of}
use Rattle.file_table.specs.Table.{TableValue}
use Rattle.file_table.specs.Valid.{IsValid}
use Rattle.parity_writer.specs.Keeps.{HasByte}
use Rattle.snap_sync.specs.Soundness.{AreSound, changed_without, snapshot_with}
use Rattle.snap_top.specs.Effect.{effect}
use Rattle.snap_top.specs.Sync.{HoldsNoContent}
use Rattle.snap_top.specs.Did.{Did}
use Rattle.parity_writer.specs.Sound.{Closed}

-- The snapshot: of each stripe the rows that it was closed with, the newest first. And which levels of which stripes were changed from outside since then.
pub record LastSynced : Type 0 where
  pub snapshot : Closed
  pub is_changed : ℕ → ℕ → Bool

-- each byte of the block of a level at a stripe stays
pub record BlockStays (block_size level stripe : ℕ) (old new : Files) : Type 0 where
  pub bytes : (i x : ℕ) → stripe * block_size ≤ i → i < stripe * block_size + block_size → HasByte (parity_of old level) i x → HasByte (parity_of new level) i x

-- Each copy is as one of the copies was, or it is absent or no content. Parity is changed only in blocks that count as changed from then on, and what
-- counted before does so still.
pub record IsChange (copies copies_then : ℕ) (is_changed is_changed_then : ℕ → ℕ → Bool) (old new : Files) : Type 0 where
  pub contents : (copy : ℕ) → copy < copies_then
      → ((other : ℕ) × (other < copies) × (content_of new copy ≡ content_of old other)) ⊎ HoldsNoContent new copy
  pub counted : (stripe level : ℕ) → is_changed_then stripe level ≡ false → is_changed stripe level ≡ false
  pub parity : (copy : ℕ) (table : TableValue) (stripe level : ℕ) → copy < copies_then → IsValid table → HoldsTable table (content_of new copy)
      → is_changed_then stripe level ≡ false → BlockStays table.shape.block_size level stripe old new

-- what was last synced once a run read so many stripes: the rows of those that it has closed by then, and no level of its table is changed in
-- these any more
abbrev pub synced_by : Did → ℕ → LastSynced → LastSynced
synced_by did count last = record {
  snapshot = snapshot_with ((effect did).rows_closed count) last.snapshot;
  is_changed = changed_without (effect did).levels_closed ((effect did).rows_closed count) last.is_changed;
}

-- sound by that
abbrev pub AreSoundBy : ℕ → Files → LastSynced → Type 0
AreSoundBy copies files last = AreSound copies files last.snapshot last.is_changed

-- each row of a snapshot is of bytes
abbrev pub IsOfBytes : Closed → Type 0
IsOfBytes snapshot = (stripe : ℕ) → All AreBytes (snapshot stripe)
