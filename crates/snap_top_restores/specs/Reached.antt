-- A damaged block that is fixed: an instance of what the laws suppose of a cell that is restored by counting undamaged levels.
use Rattle.std.specs.Prelude.{◌≡◌, ℕ, List, ◌++◌, codes, Bool, true, IsTrue}
use Rattle.cauchy.specs.Matrix.{byte_of}
use Rattle.disk_model.specs.Folder.{FolderView}
use Rattle.disk_model.specs.Opener.{OpenerView}
use Rattle.disk_model.specs.Sink.{SinkView}
use Rattle.disk_model.specs.Vault.{VaultView}
use Rattle.file_table.specs.declared.block.Cell.{Cell}
use Rattle.parity_writer.specs.Sound.{Sound}
use Rattle.snap_fix.specs.Genuine.{IsIntactLevel, TellsIntactLevels, held_row}
use Rattle.snap_fix.specs.Mended.{has_lost}
use Rattle.snap_fix.specs.Restored.{CanBeHad, HoldsCell}
use Rattle.repair_scope.specs.Plan.{is_searched}
use Rattle.stripe_examiner.specs.Facts.{StripeFacts}
use Rattle.stripe_examiner.specs.Known.{whole_level}
use Rattle.snap_top.specs.Lost.{IsToldLost}
use Rattle.snap_top.specs.RestoredLast.{HasLast, IsInReach, IsRestored}
use Rattle.snap_top.specs.Restoring.{Restores, events_in}
use Rattle.snap_top.specs.RunOf.{RunOf}
use Rattle.snap_top.specs.Standing.{GoesOver, IsHistory, IsOrigin, Stage, Standing, after_of, before_of}
use Rattle.snap_top.specs.Undamaged.{HasEnough, IsRecoverable, IsUndamaged}
use Rattle.snap_top.specs.Views.{folder_at}

-- it ends with the line that tells of one block that was fixed, and of nothing that is left
abbrev pub TellsOneFixed : List ℕ → Type 0
TellsOneFixed printed = (front : List ℕ) × (printed ≡ front ++ codes "fix: 1 blocks and 0 parities fixed, 0 findings left\n")

module _ {O F V W : Type 0} (opener_view : O → OpenerView) (folder_view : F → FolderView) (vault_view : V → VaultView) (sink_view : W → SinkView) where
  -- A fix of what stood after a history went to its end with this status, and met no hash by chance. This damaged cell was in reach, and its stripe
  -- had enough undamaged levels, of which this is one. So the level was intact, and the cell has its last synced block. Enough levels were
  -- intact by a test that tells them, and the cell isn't told to be lost.
  pub record IsReachedCell (status : ℕ) : Type 0 where
    pub first : Standing
    pub standing : Standing
    pub next : Standing
    pub stages : List (Stage O F V W)
    pub run : RunOf O F V W
    pub origin : IsOrigin first
    pub history : IsHistory opener_view folder_view vault_view sink_view first stages standing
    pub goes : GoesOver opener_view folder_view vault_view sink_view run standing next
    pub restored : IsRestored (before_of opener_view folder_view vault_view sink_view run) (after_of opener_view folder_view vault_view sink_view run)
        run.status goes.step.always.did standing.last next.trees
    pub facts : StripeFacts
    pub d : ℕ
    pub cell : Cell
    pub r : ℕ
    pub reach : IsInReach restored.ends.run facts d cell
    pub searched : is_searched restored.ends.run.plan facts.stripe ≡ true
    pub enough : HasEnough restored.ends.run standing.last.is_changed facts
    pub has : HasLast restored.ends.run standing.last next.trees facts d cell
    pub is_intact : ℕ → Bool
    pub tells_intact : TellsIntactLevels restored.ends.run.plan facts (held_row restored.ends.run.plan.table standing.last.snapshot facts.stripe) is_intact
    pub restorable : CanBeHad restored.ends.run.plan facts is_intact d
    pub not_lost : ¬ (IsToldLost (events_in restored.ends.run restored.ends.finishes) facts d cell)
    pub tells : IsTrue (before_of opener_view folder_view vault_view sink_view run).opener.vault.tells
    pub sound : Sound restored.ends.run.loaded (before_of opener_view folder_view vault_view sink_view run).opener.vault.files
        standing.last.snapshot standing.last.is_changed
    pub restores : Restores restored.ends.run restored.ends.finishes standing.last.snapshot
    pub undamaged : IsUndamaged restored.ends.run standing.last.is_changed facts r
    pub recoverable : IsRecoverable restored.ends.run standing.last.snapshot standing.last.is_changed facts d cell
    pub intact : (whole_level facts.levels r ≡ true) × IsIntactLevel restored.ends.run.plan facts (held_row restored.ends.run.plan.table standing.last.snapshot facts.stripe) r
    pub holds : HoldsCell restored.ends.run.plan.table d cell (has_lost restored.ends.run.plan restored.ends.run.stripes d cell.rec)
        (byte_of (held_row restored.ends.run.plan.table standing.last.snapshot facts.stripe) d) (folder_at restored.ends.run.ended d).tree
    pub status_is : run.status ≡ status
