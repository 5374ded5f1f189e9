-- The next fix after one that was stopped.
use Rattle.std.specs.Prelude.{◌≡◌, ℕ, ◌<◌, length, Bool, Contains}
use Rattle.snap_fix.specs.Genuine.{IsRestorableStripe, TellsIntactLevels, held_row}
use Rattle.snap_fix.specs.Mended.{Mended}
use Rattle.snap_sync.specs.Part.{tree_at, trees_of}
use Rattle.snap_top.specs.Unbroken.{NothingRose}
use Rattle.snap_top.specs.Fix.{FixRun}
use Rattle.snap_top.specs.Stands.{TellsAll}
use Rattle.snap_top.specs.Entry.{Entry, Exit}
use Rattle.snap_top.specs.Standing.{Standing}
use Rattle.snap_top.specs.Stopping.{FolderStandsIn}
use Rattle.snap_top.specs.Undamaged.{HasEnough}
use Rattle.parity_writer.specs.Sound.{Closed}

-- It is of a run that begins with the files that the first one left in its folders, and from the same table. All is told, and no count of
-- faults rose in it.
pub record IsNextFix (before : Entry) (exit : Exit) (fix : FixRun) (before_then : Entry) (exit_then : Exit) (again : FixRun) : Type 0 where
  pub tells : TellsAll before
  pub tells_then : TellsAll before_then
  pub left : (d : ℕ) → d < length before.opener.folders → FolderStandsIn before exit d (tree_at (trees_of before_then.opener.folders) d)
  pub loaded : again.loaded ≡ fix.loaded
  pub well : NothingRose before_then exit_then

-- Each stripe that both looked at has enough undamaged levels for it, if it had for the first one.
abbrev pub HasEnoughAgain : FixRun → FixRun → (ℕ → ℕ → Bool) → (ℕ → ℕ → Bool) → Type 0
HasEnoughAgain fix again is_changed is_changed_then = (mended mended_again : Mended) → Contains fix.stripes mended → Contains again.stripes mended_again
    → mended_again.facts.stripe ≡ mended.facts.stripe → HasEnough fix is_changed mended.facts → HasEnough again is_changed_then mended_again.facts

-- Each stripe that both looked at is restorable for it, by intact levels, if it was for the first one.
abbrev pub IsRestorableAgain : FixRun → FixRun → Closed → Closed → Type 0
IsRestorableAgain fix again snapshot snapshot_then = (mended mended_again : Mended) (is_intact is_intact_then : ℕ → Bool)
    → Contains fix.stripes mended → Contains again.stripes mended_again → mended_again.facts.stripe ≡ mended.facts.stripe
    → TellsIntactLevels fix.plan mended.facts (held_row fix.plan.table snapshot mended.facts.stripe) is_intact
    → TellsIntactLevels again.plan mended_again.facts (held_row again.plan.table snapshot_then mended_again.facts.stripe) is_intact_then
    → IsRestorableStripe fix.plan mended.facts is_intact → IsRestorableStripe again.plan mended_again.facts is_intact_then

-- so the next fix can restore as much as the first one, by both ways of counting
pub record RestoresAgain (fix again : FixRun) (standing next : Standing) : Type 0 where
  pub enough : HasEnoughAgain fix again standing.last.is_changed next.last.is_changed
  pub restorable : IsRestorableAgain fix again standing.last.snapshot next.last.snapshot
