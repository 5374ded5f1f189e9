-- Which levels of a stripe are undamaged, and which cells a fix restores by counting them.
use Rattle.std.specs.Prelude.{◌≡◌, ℕ, ◌<◌, ◌≤◌, List, length, filter, get_or, not, Bool, true, false, Contains}
use Rattle.std.specs.List.{range_with_len}
use Rattle.cauchy.specs.Recovery.{AreBytes}
use Rattle.file_table.specs.declared.block.Cell.{Cell}
use Rattle.parity_writer.specs.LevelsValue.{LevelValue, no_level}
use Rattle.parity_writer.specs.declared.levels.LevelRead.{LevelRead}
use Rattle.parity_writer.specs.declared.levels.LevelRead.TheVariants as here
use Rattle.stripe_examiner.specs.Facts.{StripeFacts, missing_in}
use Rattle.snap_fix.specs.Fixing.{facts_of}
use Rattle.snap_fix.specs.Genuine.{held_row}
use Rattle.repair_scope.specs.Plan.{entry_at, is_synced}
use Rattle.snap_fix.specs.Restored.{IsDamagedCell}
use Rattle.snap_top.specs.Fix.{FixRun}
use Rattle.parity_writer.specs.Sound.{Closed}

-- a level was read, whole or short
abbrev pub is_read : LevelRead → Bool
is_read here.Bytes = true
is_read here.Short = true
is_read here.Unread = false

abbrev pub was_read : List LevelValue → ℕ → Bool
was_read levels r = is_read (get_or levels r no_level).state

-- the levels of a stripe that were read, and were not changed from outside since the stripe was last synced
abbrev pub undamaged_levels : (ℕ → ℕ → Bool) → StripeFacts → List ℕ
undamaged_levels is_changed facts =
    filter (λ (r : ℕ). not (is_changed facts.stripe r)) (filter (was_read facts.levels) (range_with_len 0 (length facts.levels)))

-- no more cells of a stripe are missing than levels are undamaged: of a synced one that says that they can be restored
abbrev pub HasEnough : FixRun → (ℕ → ℕ → Bool) → StripeFacts → Type 0
HasEnough run is_changed facts = length (missing_in run.plan facts) ≤ length (undamaged_levels is_changed facts)

-- this is one of them, in a stripe that was synced
pub record IsUndamaged (run : FixRun) (is_changed : ℕ → ℕ → Bool) (facts : StripeFacts) (r : ℕ) : Type 0 where
  pub one : Contains (facts_of run.stripes) facts
  pub synced : is_synced run.plan facts.stripe ≡ true
  pub within : r < length facts.levels
  pub read : was_read facts.levels r ≡ true
  pub unchanged : is_changed facts.stripe r ≡ false

-- A selected damaged cell of a stripe that was synced and has enough undamaged levels, of a record that isn't blocked.
pub record IsRecoverable (run : FixRun) (snapshot : Closed) (is_changed : ℕ → ℕ → Bool) (facts : StripeFacts) (d : ℕ)
    (cell : Cell) : Type 0 where
  pub is : IsDamagedCell run.plan (facts_of run.stripes) facts d cell
  pub synced : is_synced run.plan facts.stripe ≡ true
  pub free : (entry_at run.plan d cell.rec).blocked ≡ false
  pub bytes : AreBytes (held_row run.plan.table snapshot facts.stripe)
  pub enough : HasEnough run is_changed facts
