-- The damaged blocks and wrong levels of a stripe of the window are written anew.
use Rattle.std.specs.Prelude.{◌≡◌, ℕ, ◌<◌, ◌≤◌, ◌||◌, List, [], ◌∷◌, ◌++◌, length, take, get_or, Bool, false, IsTrue}
use Rattle.std.specs.List.{range_with_len, flat_map}
use Rattle.disk_model.specs.Cause.{Rose}
use Rattle.disk_model.specs.Folder.{FolderView}
use Rattle.disk_model.specs.Sink.{SinkView}
use Rattle.disk_model.specs.Vault.{VaultView, GoesOn, SomeCalls, ChangesBy, DraftsStay, Reads}
use Rattle.parity_writer.specs.LevelsValue.{LevelsValue}
use Rattle.snap_report.specs.Answer.{Gained}
use Rattle.file_restorer.specs.Breaking.{FailsInColumn, broke_parity}
use Rattle.snap_fix.specs.BrokenStripe.{FailsAtLevel}
use Rattle.snap_report.specs.Report.{ReportView}
use Rattle.snap_report.specs.Told.{Told}
use Rattle.snap_report.specs.declared.events.Event.{Event}
use Rattle.snap_report.specs.declared.pages.Lines.{Lines}
use Rattle.stripe_reader.specs.Columns.{folder_at}
use Rattle.stripe_reader.specs.Starts.{StartsValue, StartsFit}
use Rattle.stripe_reader.specs.WindowValue.{WindowValue}
use Rattle.stripe_examiner.specs.declared.marking.SlotMark.{SlotMark}
use Rattle.snap_fix.specs.declared.repairing.Repaired.{Repaired}
use Rattle.file_restorer.specs.declared.state.FileState.{FileState}
use Rattle.stripe_examiner.specs.Counts.{AreCounts}
use Rattle.stripe_examiner.specs.Facts.{StripeFacts}
use Rattle.stripe_examiner.specs.Marks.{row_if}
use Rattle.snap_fix.specs.Mended.{Mended, AnswersFit, all_cell_news, all_level_news, cell_news, is_wrong_level, level_news, written_in, wrong_in}
use Rattle.file_restorer.specs.Mending.{StatesFit}
use Rattle.repair_scope.specs.Plan.{FixPlan}
use Rattle.file_restorer.specs.State.{FolderMakesBy, KeepsStarts}
use Rattle.snap_fix.specs.Underway.{AreFixable, AreMendCalls, AreUnderway, FailsInMend, FixUnderway, IsMendCall, KeepsLevels, AddsZeros, IsMendedLevel, HoldsWrong, done_well, wrong_writes}
use Rattle.stripe_examiner.specs.Showing.{ShowsFacts}

-- ---- files

-- what is written, and told: where files stand, what was done to them, the folders, the lines, and those who are told
pub record FilesOutside (W R : Type 0) : Type 0 where
  pub starts : StartsValue
  pub states : List (List FileState)
  pub folders : List FolderView
  pub lines : Lines W
  pub reports : List R

abbrev pub outside : {W R : Type 0} → StartsValue → List (List FileState) → List FolderView → Lines W → List R → FilesOutside W R
outside starts states folders lines reports =
    record { starts = starts; states = states; folders = folders; lines = lines; reports = reports }

-- the files of a stripe can be written: its facts are shown, and the fix is underway
pub record CanMend (plan : FixPlan) (stripe i : ℕ) (window : WindowValue) (marks : List SlotMark) (known : Bool)
    (starts : StartsValue) (states : List (List FileState)) (folders : List FolderView) : Type 0 where
  pub folders_are : length folders ≡ length plan.table.columns
  pub starts_fit : StartsFit plan.table starts
  pub states_fit : StatesFit plan.table states
  pub marks_are : length marks ≡ length plan.table.columns
  pub facts : StripeFacts
  pub stripe_is : facts.stripe ≡ stripe
  pub shows : ShowsFacts plan facts i marks known window
  pub underway : FixUnderway plan folders starts states

-- The folder of a column failed while the cells of a stripe were written: of each before it the calls for its cell were
-- made, and of it those up to the one that failed, in their order, and each before that one found its file.
pub record FailsInCell (disk : ℕ) (plan : FixPlan) (starts : StartsValue) (mended : Mended) (olds news : List FolderView) : Type 0 where
  pub in_column : FailsInColumn disk (length plan.table.columns) (λ (d : ℕ). AreMendCalls plan starts d mended)
      (λ (d : ℕ). IsMendCall plan starts d (mended ∷ [])) olds news
  pub here : FailsInMend plan starts disk mended (folder_at olds disk) (folder_at news disk)

-- All known blocks of the stripe were written: whichever its facts, and whatever the fix did before, it goes on with this stripe.
pub record MendsFiles {W R : Type 0} (view : W → SinkView) (standing : R → ReportView) (stands : R → List Event → Type 0)
    (plan : FixPlan) (stripe i : ℕ) (window : WindowValue) (marks : List SlotMark) (known : Bool)
    (old new : FilesOutside W R) (repaired : Repaired) : Type 0 where
  pub answers : List Bool
  pub as_many : length answers ≡ length plan.table.columns
  pub starts_fit : StartsFit plan.table new.starts
  pub states_fit : StatesFit plan.table new.states
  pub stood : KeepsStarts old.starts new.starts
  pub folders : length new.folders ≡ length old.folders
  pub answered : (facts : StripeFacts) → facts.stripe ≡ stripe → ShowsFacts plan facts i marks known window
      → AnswersFit plan old.folders (record { facts = facts; answers = answers })
  pub told : (facts : StripeFacts) → facts.stripe ≡ stripe → ShowsFacts plan facts i marks known window
      → Told view standing stands plan.table.columns (all_cell_news plan (record { facts = facts; answers = answers })) old.lines new.lines old.reports new.reports
  pub counts : (facts : StripeFacts) → facts.stripe ≡ stripe → ShowsFacts plan facts i marks known window
      → AreCounts (all_cell_news plan (record { facts = facts; answers = answers })) repaired.counts
  pub blocks : (facts : StripeFacts) → facts.stripe ≡ stripe → ShowsFacts plan facts i marks known window
      → repaired.blocks ≡ written_in plan (record { facts = facts; answers = answers })
  pub makes : (facts : StripeFacts) → facts.stripe ≡ stripe → ShowsFacts plan facts i marks known window → (d : ℕ) → d < length plan.table.columns
      → FolderMakesBy (AreMendCalls plan old.starts d (record { facts = facts; answers = answers }))
      (folder_at old.folders d) (folder_at new.folders d)
  pub underway : (facts : StripeFacts) → facts.stripe ≡ stripe → ShowsFacts plan facts i marks known window
      → (stripes : List Mended) (firsts : List FolderView) → AreFixable plan firsts → AreUnderway plan stripes firsts old.folders old.starts old.states
      → AreUnderway plan (stripes ++ record { facts = facts; answers = answers } ∷ []) firsts new.folders new.starts new.states

-- The folder of a column failed, in a call that neither looks nor reads, and no more calls were made. Just what is told
-- of the columns before it was told.
pub record MendsNotFiles {W R : Type 0} (view : W → SinkView) (standing : R → ReportView) (stands : R → List Event → Type 0)
    (plan : FixPlan) (stripe i : ℕ) (window : WindowValue) (marks : List SlotMark) (known : Bool)
    (old new : FilesOutside W R) (disk : ℕ) : Type 0 where
  pub folders : length new.folders ≡ length old.folders
  pub broke : (facts : StripeFacts) → facts.stripe ≡ stripe → ShowsFacts plan facts i marks known window
      → (answers : List Bool) × AnswersFit plan old.folders (record { facts = facts; answers = answers })
      × Told view standing stands plan.table.columns
      (flat_map (cell_news plan (record { facts = facts; answers = answers })) (range_with_len 0 disk))
      old.lines new.lines old.reports new.reports
      × FailsInCell disk plan old.starts (record { facts = facts; answers = answers }) old.folders new.folders

-- ---- levels

pub record LevelsOutside (W R : Type 0) : Type 1 where
  pub vault : VaultView
  pub lines : Lines W
  pub reports : List R

abbrev pub levels_outside : {W R : Type 0} → VaultView → Lines W → List R → LevelsOutside W R
levels_outside vault lines reports = record { vault = vault; lines = lines; reports = reports }

-- the levels were read of this vault, and there is a block for a sum
pub record CanMendLevels (plan : FixPlan) (levels : LevelsValue) (block : List ℕ) (vault : VaultView) : Type 0 where
  pub count : levels.count ≡ plan.table.shape.levels
  pub room : levels.count ≤ length levels.levels
  pub size : levels.block_size ≡ plan.table.shape.block_size
  pub block_is : length block ≡ plan.table.shape.block_size
  pub levels_are : vault.levels ≡ plan.table.shape.levels

-- these are the levels and the row of a stripe's facts
pub record ShowsLevels (facts : StripeFacts) (stripe i : ℕ) (window : WindowValue) (levels : LevelsValue) (known : Bool) : Type 0 where
  pub stripe_is : facts.stripe ≡ stripe
  pub levels_are : facts.levels ≡ take levels.count levels.levels
  pub row : facts.row ≡ row_if known window i

-- of each level whether it was written: besides those that were before, the wrong ones were
abbrev pub FlagsWritten : FixPlan → StripeFacts → List Bool → List Bool → Type 0
FlagsWritten plan facts before after = (length after ≡ length before)
    × ((r : ℕ) → r < length before → get_or after r false ≡ (get_or before r false || is_wrong_level plan facts r))

-- The wrong levels of the stripe were written, and nothing else of the vault changed.
pub record MendsLevels {W R : Type 0} (view : W → SinkView) (standing : R → ReportView) (stands : R → List Event → Type 0)
    (plan : FixPlan) (stripe i : ℕ) (window : WindowValue) (levels : LevelsValue) (known : Bool)
    (old new : LevelsOutside W R) (count : ℕ) : Type 0 where
  pub calls : SomeCalls old.vault new.vault
  pub ran : (facts : StripeFacts) → ShowsLevels facts stripe i window levels known → GoesOn old.vault new.vault (done_well (wrong_writes plan facts))
  pub drafts : DraftsStay old.vault new.vault
  pub told : (facts : StripeFacts) → ShowsLevels facts stripe i window levels known
      → Told view standing stands plan.table.columns (all_level_news plan facts) old.lines new.lines old.reports new.reports
  pub count_is : (facts : StripeFacts) → ShowsLevels facts stripe i window levels known → count ≡ wrong_in plan (record { facts = facts; answers = [] })
  pub changes : (facts : StripeFacts) → ShowsLevels facts stripe i window levels known
      → ChangesBy (KeepsLevels plan.table.shape.block_size (IsMendedLevel plan (facts ∷ []))) old.vault new.vault
  pub zeros : (facts : StripeFacts) → ShowsLevels facts stripe i window levels known → IsTrue old.vault.tells
      → AddsZeros plan.table.shape.block_size (IsMendedLevel plan (facts ∷ [])) old.vault.files new.vault.files
  pub holds : (facts : StripeFacts) → ShowsLevels facts stripe i window levels known → Reads (HoldsWrong plan facts) new.vault

-- The write of a wrong level failed, and the vault's count rose. Just what is told of the levels below it was told.
pub record MendsNotLevels {W R : Type 0} (view : W → SinkView) (standing : R → ReportView) (stands : R → List Event → Type 0)
    (plan : FixPlan) (stripe i : ℕ) (window : WindowValue) (levels : LevelsValue) (known : Bool)
    (old new : LevelsOutside W R) : Type 0 where
  pub rose : Rose old.vault.faults new.vault.faults
  pub call : IsTrue new.vault.tells_calls → Gained broke_parity old.vault.calls new.vault.calls
  pub calls : SomeCalls old.vault new.vault
  pub drafts : DraftsStay old.vault new.vault
  pub level : ℕ
  pub ran : (facts : StripeFacts) → ShowsLevels facts stripe i window levels known
      → FailsAtLevel plan facts level [] old.vault new.vault
  pub told : (facts : StripeFacts) → ShowsLevels facts stripe i window levels known
      → Told view standing stands plan.table.columns (flat_map (level_news plan facts) (range_with_len 0 level))
      old.lines new.lines old.reports new.reports
  pub changes : (facts : StripeFacts) → ShowsLevels facts stripe i window levels known
      → ChangesBy (KeepsLevels plan.table.shape.block_size (IsMendedLevel plan (facts ∷ []))) old.vault new.vault
