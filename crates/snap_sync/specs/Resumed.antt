-- That one full sync ends as another: where a sync was stopped and is begun anew.
use Rattle.std.specs.Prelude.{◌≡◌, ℕ, ◌+◌, ◌*◌, ◌<◌, List, length, slice_index, Bool, false}
use Rattle.content_file.specs.Spelling.{HoldsTable}
use Rattle.disk_model.specs.Files.{Files, parity_of, content_of}
use Rattle.file_table.specs.Table.{TableValue}
use Rattle.file_table.specs.Valid.{IsValid}
use Rattle.snap_sync.specs.Calls.{SyncPlan}
use Rattle.snap_sync.specs.Images.{MayStand}
use Rattle.snap_sync.specs.Part.{without_checks}
use Rattle.stripe_findings.specs.Reading.{StripeReading}

-- parity of two files is the same in the stripes of a table, but for the blocks that were changed from outside
pub record SameParityBut (table : TableValue) (is_changed : ℕ → ℕ → Bool) (one other : Files) : Type 0 where
  pub lengths : (level : ℕ) → level < table.shape.levels → length (parity_of one level) ≡ length (parity_of other level)
  pub bytes : (level stripe i : ℕ) → level < table.shape.levels → stripe < length table.infos → i < table.shape.block_size
      → is_changed stripe level ≡ false → slice_index (parity_of one level) (stripe * table.shape.block_size + i)
      ≡ slice_index (parity_of other level) (stripe * table.shape.block_size + i)

-- the tables are the same but for the times of the last checks, and parity is the same but for what was changed from outside
pub record EndsAs (start : TableValue) (is_changed : ℕ → ℕ → Bool) (table other_table : TableValue)
    (one other : Files) : Type 0 where
  pub table_is : without_checks other_table ≡ without_checks table
  pub parity : SameParityBut start is_changed one other

-- Files that stand at a moment of a sync, and a table that is found in one of their copies. If that copy is as it was at the
-- start, it is the table that was loaded there.
pub record IsFoundAt (plan : SyncPlan) (readings : List StripeReading) (loaded : TableValue)
    (old new : Files) (found : TableValue) : Type 0 where
  pub moment : MayStand plan readings old new
  pub valid : IsValid found
  pub copy : ℕ
  pub within : copy < plan.copies
  pub spells : HoldsTable found (content_of new copy)
  pub as_loaded : HoldsTable found (content_of old copy) → found ≡ loaded
