-- A stripe where a fix broke off: which of its levels were written, and what was told of it.
use Rattle.std.specs.Prelude.{◌≡◌, ℕ, ◌<◌, List, [], ◌∷◌, ◌++◌, length, true, Some}
use Rattle.std.specs.List.{range_with_len, flat_map}
use Rattle.disk_model.specs.Files.{Files, parity_of}
use Rattle.disk_model.specs.Vault.{plain_done, VaultView, VaultCall, VaultDone, GoesOn, Reads}
use Rattle.parity_writer.specs.Parity.{HasLevel, Row}
use Rattle.snap_report.specs.declared.answer.RunFault.{RunFault}
use Rattle.snap_report.specs.declared.answer.RunFault.TheVariants.{Folder, Vault, Memory}
use Rattle.snap_report.specs.declared.events.Event.{Event}
use Rattle.stripe_examiner.specs.Facts.{StripeFacts}
use Rattle.stripe_examiner.specs.Findings.{stripe_events}
use Rattle.snap_fix.specs.Mended.{Mended, all_cell_news, cell_news, is_wrong_level, level_news}
use Rattle.repair_scope.specs.Plan.{FixPlan}
use Rattle.snap_fix.specs.Underway.{done_well, level_write, wrong_write}

-- ---- its levels

-- the writes of the wrong levels below one, in order
abbrev pub writes_below : FixPlan → StripeFacts → ℕ → List VaultCall
writes_below plan facts level = flat_map (wrong_write plan facts facts.row) (range_with_len 0 level)

-- the wrong levels of a stripe below one hold the sums of its row
abbrev pub HoldsBelow : FixPlan → StripeFacts → ℕ → Files → Type 0
HoldsBelow plan facts level files = (r : ℕ) (row : Row) → r < level → is_wrong_level plan facts r ≡ true
    → facts.row ≡ Some row → HasLevel plan.table.shape.block_size r facts.stripe row (parity_of files r)

-- Behind these calls of the vault the wrong levels of a stripe below this one were written, and then the write of this
-- one, which is wrong too, failed. Those below it hold their sums.
pub record FailsAtLevel (plan : FixPlan) (facts : StripeFacts) (level : ℕ) (before : List VaultDone)
    (old new : VaultView) : Type 0 where
  pub within : level < length facts.levels
  pub wrong : is_wrong_level plan facts level ≡ true
  pub row : Row
  pub row_is : facts.row ≡ Some row
  pub goes_on : GoesOn old new
      (before ++ (done_well (writes_below plan facts level) ++ plain_done (level_write plan facts row level) true ∷ []))
  pub holds : Reads (HoldsBelow plan facts level) new

-- A fix broke off in a stripe behind these calls of the vault: where a folder failed, none of its levels was written;
-- where the vault did, the write of this level failed.
abbrev pub BreaksLevels : RunFault → FixPlan → StripeFacts → ℕ → List VaultDone → VaultView → VaultView → Type 0
BreaksLevels (Folder disk) plan facts level before old new = GoesOn old new before
BreaksLevels Vault plan facts level before old new = FailsAtLevel plan facts level before old new
BreaksLevels Memory plan facts level before old new = ⊥

-- ---- what was told

-- of its writes, by what failed: where a folder did, what is told of the blocks of the columns before it; where the
-- write of a level did, that of all blocks, and of the levels below that one
abbrev pub writes_told : RunFault → FixPlan → Mended → ℕ → List Event
writes_told (Folder disk) plan mended level = flat_map (cell_news plan mended) (range_with_len 0 disk)
writes_told Vault plan mended level =
    all_cell_news plan mended ++ flat_map (level_news plan mended.facts) (range_with_len 0 level)
writes_told Memory plan mended level = []

-- all that was found in it, and then that
abbrev pub broken_events : RunFault → FixPlan → Mended → ℕ → List Event
broken_events fault plan mended level = stripe_events plan mended.facts ++ writes_told fault plan mended level
