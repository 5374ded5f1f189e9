-- When all copies of a vault are sound, and by which snapshot after stripes were read.
use Rattle.std.specs.Prelude.{◌⊎◌, ℕ, ◌^◌, ◌<◌, ◌≤◌, List, ◌∷◌, length, Bool, if◌then◌else◌}
use Rattle.std.specs.Prelude.{Option, None, Some, is_some}
use Rattle.array_scan.specs.Keeping.{KeepsStripes}
use Rattle.content_file.specs.Spelling.{HoldsTable}
use Rattle.disk_model.specs.Files.{Files, content_of}
use Rattle.file_table.specs.Table.{TableValue}
use Rattle.file_table.specs.Valid.{IsValid}
use Rattle.parity_writer.specs.Closing.{changed_behind}
use Rattle.parity_writer.specs.Parity.{Row, Rows}
use Rattle.parity_writer.specs.Sound.{Closed, Sound, IsSynced}
use Rattle.snap_sync.specs.Calls.{SyncPlan}
use Rattle.snap_sync.specs.Images.{rows_after}
use Rattle.stripe_findings.specs.Reading.{StripeReading}

-- each copy that spells a table is sound
abbrev pub AreSound : ℕ → Files → Closed → (ℕ → ℕ → Bool) → Type 0
AreSound copies files snapshot is_changed = (copy : ℕ) (table : TableValue) → copy < copies → IsValid table →
    HoldsTable table (content_of files copy) → Sound table files snapshot is_changed

-- a snapshot with these rows in front, and what was changed from outside without the first levels of their stripes
abbrev pub in_front : Option Row → List Row → List Row
in_front None rows = rows
in_front (Some row) rows = row ∷ rows

abbrev pub snapshot_with : Rows → Closed → Closed
snapshot_with rows snapshot stripe = in_front (rows stripe) (snapshot stripe)

abbrev pub changed_without : ℕ → Rows → (ℕ → ℕ → Bool) → ℕ → ℕ → Bool
changed_without levels rows is_changed stripe level =
    if is_some (rows stripe) then changed_behind levels is_changed stripe level else is_changed stripe level

-- a table was loaded from files: one of the copies spells it, or it has no synced stripe
abbrev pub IsLoadedFrom : ℕ → TableValue → Files → Type 0
IsLoadedFrom copies table files =
    ((copy : ℕ) × (copy < copies) × HoldsTable table (content_of files copy))
    ⊎ ((stripe : ℕ) → IsSynced table stripe → ⊥)

-- A sync stands on a table that was loaded from files: of what the laid out table calls synced nothing is new.
pub record StandsOn (plan : SyncPlan) (loaded : TableValue) (files : Files) : Type 0 where
  pub valid : IsValid loaded
  pub is_loaded : IsLoadedFrom plan.copies loaded files
  pub laid : IsValid plan.start
  pub keeps : KeepsStripes plan.start loaded
  pub in_time : plan.now < 2 ^ 64

-- All copies are sound after some number of the stripes that were read: with their rows in front in the snapshot, and
-- with no level of the table changed from outside in them.
pub record AreSoundAfter (plan : SyncPlan) (readings : List StripeReading) (files : Files)
    (snapshot : Closed) (is_changed : ℕ → ℕ → Bool) : Type 0 where
  pub count : ℕ
  pub within : count ≤ length readings
  pub sound : AreSound plan.copies files (snapshot_with (rows_after plan readings count) snapshot)
      (changed_without plan.start.shape.levels (rows_after plan readings count) is_changed)
