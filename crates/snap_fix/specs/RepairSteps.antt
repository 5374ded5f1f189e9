-- The steps by which a stripe is written anew: one cell of it, and one level.
use Rattle.std.specs.Prelude.{◌≡◌, ◌≢◌, ℕ, ◌*◌, ◌<◌, ◌≤◌, ◌&&◌, ◌||◌, not, List, [], ◌∷◌, ◌++◌, length, get_or, Bool, if◌then◌else◌, true, Some, IsTrue}
use Rattle.cauchy.specs.Matrix.{parity_of as level_of}
use Rattle.disk_model.specs.Cause.{Rose}
use Rattle.disk_model.specs.Bytes.{put}
use Rattle.disk_model.specs.Files.{Files, parity_of, with_parity, TearsParity}
use Rattle.disk_model.specs.Folder.{FolderView}
use Rattle.disk_model.specs.Sink.{SinkView}
use Rattle.disk_model.specs.Tree.{IsTree}
use Rattle.disk_model.specs.Vault.{plain_done, GoesOn, ParityWrite, SomeCalls, ChangesBy, DraftsStay, Reads}
use Rattle.file_table.specs.Table.{Column, TableValue, records_in}
use Rattle.file_table.specs.declared.block.Cell.{Cell}
use Rattle.parity_writer.specs.Parity.{Row, HasLevel}
use Rattle.snap_report.specs.Answer.{Gained}
use Rattle.file_restorer.specs.Breaking.{StepFails, broke_parity}
use Rattle.snap_report.specs.Report.{ReportView}
use Rattle.snap_report.specs.Told.{Told}
use Rattle.snap_report.specs.declared.events.Event.{Event}
use Rattle.snap_report.specs.declared.events.Event.TheVariants.{FixedParity}
use Rattle.snap_report.specs.declared.pages.Lines.{Lines}
use Rattle.stripe_reader.specs.Starts.{StartsValue, StartsFit, starts_at, start_in}
use Rattle.stripe_reader.specs.WindowValue.{WindowValue}
use Rattle.stripe_reader.specs.declared.starts.Place.{Place}
use Rattle.stripe_examiner.specs.declared.marking.SlotMark.{SlotMark}
use Rattle.snap_fix.specs.declared.repairing.Repaired.{Repaired}
use Rattle.file_restorer.specs.declared.state.FileState.{FileState}
use Rattle.stripe_examiner.specs.Counts.{AreCounts}
use Rattle.stripe_examiner.specs.Facts.{StripeFacts}
use Rattle.snap_fix.specs.Mended.{Mended, answer_of, cell_news, is_repaired, is_written, is_blocked_cell, mended_event}
use Rattle.file_restorer.specs.Mending.{StatesFit, IsFree, IsBlockCall, block_start, cell_path, mended_writes, with_place, with_state}
use Rattle.file_restorer.specs.Order.{FolderWrites, block_calls}
use Rattle.repair_scope.specs.Plan.{FixPlan, cell_at, is_synced, selects_cell}
use Rattle.snap_fix.specs.Repairing.{LevelsOutside}
use Rattle.file_restorer.specs.State.{Write, HoldsTold, FolderMakesBy, KeepsStarts, StaysPlace, StepMakes, size_after, state_in}
use Rattle.snap_fix.specs.Underway.{AreMendCalls, FailsInMend, IsFixable, IsColumnUnderway, done_well}
use Rattle.stripe_examiner.specs.Showing.{ShowsFacts, is_damaged_mark, is_known_mark}

-- ---- one cell

-- what is written of a column, and told
pub record ColumnOutside (W R : Type 0) : Type 0 where
  pub starts : StartsValue
  pub states : List (List FileState)
  pub folder : FolderView
  pub lines : Lines W
  pub reports : List R

abbrev pub column_outside : {W R : Type 0} → StartsValue → List (List FileState) → FolderView → Lines W → List R → ColumnOutside W R
column_outside starts states folder lines reports =
    record { starts = starts; states = states; folder = folder; lines = lines; reports = reports }

-- by its marks, the cell of a column is to be written
abbrev pub is_repaired_by : FixPlan → ℕ → SlotMark → Bool → ℕ → Bool
is_repaired_by plan stripe mark known d =
    selects_cell plan stripe d && is_damaged_mark mark.cell && is_known_mark (is_synced plan stripe) mark known
    && not (is_blocked_cell plan d (cell_at plan stripe d))

-- the facts of a stripe are shown, and fit the answer of a column
pub record IsMendedAs (plan : FixPlan) (stripe i d : ℕ) (window : WindowValue) (marks : List SlotMark) (known answer : Bool)
    (mended : Mended) : Type 0 where
  pub stripe_is : mended.facts.stripe ≡ stripe
  pub shows : ShowsFacts plan mended.facts i marks known window
  pub answer_is : answer_of mended d ≡ answer

-- all but one column is as it was
pub record KeepsColumns (d : ℕ) (starts : StartsValue) (states : List (List FileState)) (starts_new : StartsValue)
    (states_new : List (List FileState)) : Type 0 where
  pub same_starts : (k : ℕ) → k ≢ d → starts_at starts_new.columns k ≡ starts_at starts.columns k
  pub same_states : (k : ℕ) → k ≢ d → get_or states_new k [] ≡ get_or states k []

-- the cell of a column can be written: the stripe's facts are shown, and the fix of the column is underway
pub record CanMendColumn (plan : FixPlan) (stripe i d : ℕ) (window : WindowValue) (marks : List SlotMark) (known : Bool)
    (starts : StartsValue) (states : List (List FileState)) (folder : FolderView) : Type 0 where
  pub within : d < length plan.table.columns
  pub starts_fit : StartsFit plan.table starts
  pub states_fit : StatesFit plan.table states
  pub marks_are : length marks ≡ length plan.table.columns
  pub facts : StripeFacts
  pub stripe_is : facts.stripe ≡ stripe
  pub shows : ShowsFacts plan facts i marks known window
  pub stripes : List Mended
  pub first : FolderView
  pub fixable : IsFixable plan d first
  pub underway : IsColumnUnderway plan d stripes first folder starts states

-- The cell of a column was written where it is to be, and that told: whichever the facts of the stripe, the column goes on with it.
pub record MendsColumn {W R : Type 0} (view : W → SinkView) (standing : R → ReportView) (stands : R → List Event → Type 0)
    (plan : FixPlan) (stripe i d : ℕ) (window : WindowValue) (marks : List SlotMark) (known : Bool)
    (old new : ColumnOutside W R) (repaired : Repaired) : Type 0 where
  pub answer : Bool
  pub starts_fit : StartsFit plan.table new.starts
  pub states_fit : StatesFit plan.table new.states
  pub keeps : KeepsColumns d old.starts old.states new.starts new.states
  pub stood : KeepsStarts old.starts new.starts
  pub answered : (mended : Mended) → IsMendedAs plan stripe i d window marks known answer mended
      → IsTrue old.folder.tells → is_repaired plan mended.facts d ≡ true → answer ≡ true
  pub told : (mended : Mended) → IsMendedAs plan stripe i d window marks known answer mended
      → Told view standing stands plan.table.columns (cell_news plan mended d) old.lines new.lines old.reports new.reports
  pub counts : (mended : Mended) → IsMendedAs plan stripe i d window marks known answer mended → AreCounts (cell_news plan mended d) repaired.counts
  pub blocks : (mended : Mended) → IsMendedAs plan stripe i d window marks known answer mended
      → repaired.blocks ≡ (if is_written plan mended d then 1 else 0)
  pub few : repaired.blocks ≤ 1
  pub makes : (mended : Mended) → IsMendedAs plan stripe i d window marks known answer mended
      → FolderMakesBy (AreMendCalls plan old.starts d mended) old.folder new.folder
  pub underway : (mended : Mended) → IsMendedAs plan stripe i d window marks known answer mended
      → (stripes : List Mended) (first : FolderView) → IsFixable plan d first → IsColumnUnderway plan d stripes first old.folder old.starts old.states
      → IsColumnUnderway plan d (stripes ++ mended ∷ []) first new.folder new.starts new.states

-- A call of its folder failed, the last of such calls, and nothing was told.
pub record MendsNotColumn {W R : Type 0} (view : W → SinkView) (standing : R → ReportView) (stands : R → List Event → Type 0)
    (plan : FixPlan) (stripe i d : ℕ) (window : WindowValue) (marks : List SlotMark) (known : Bool)
    (old new : ColumnOutside W R) : Type 0 where
  pub told : Told view standing stands plan.table.columns [] old.lines new.lines old.reports new.reports
  pub fails : (mended : Mended) → mended.facts.stripe ≡ stripe → ShowsFacts plan mended.facts i marks known window
      → FailsInMend plan old.starts d mended old.folder new.folder

-- The block of a cell was written, and that told; or its file was gone, and that it is lost was.
pub record WritesBlockOf {W R : Type 0} (view : W → SinkView) (standing : R → ReportView) (stands : R → List Event → Type 0)
    (table : TableValue) (stripe d : ℕ) (cell : Cell) (bytes : List ℕ) (old new : ColumnOutside W R) (repaired : Repaired) : Type 0 where
  pub written : Bool
  pub place : Place
  pub state : FileState
  pub starts_are : new.starts ≡ with_place old.starts d cell.rec place
  pub stood : StaysPlace (start_in (starts_at old.starts.columns d) cell.rec).place place
  pub there : IsTrue old.folder.tells → written ≡ true
  pub wrote : written ≡ true → FolderWrites (block_calls (start_in (starts_at old.starts.columns d) cell.rec).place (state_in old.states d cell.rec).touched
      (cell_path table d cell) (block_start table cell) bytes) old.folder new.folder
  pub size : state.size ≡ size_after (state_in old.states d cell.rec).size (if written then record { at = block_start table cell; bytes = bytes } ∷ [] else [])
  pub touched : written ≡ true → state.touched ≡ true
  pub stays_touched : (state_in old.states d cell.rec).touched ≡ true → state.touched ≡ true
  pub states_are : new.states ≡ with_state old.states d cell.rec state
  pub lost : state.lost ≡ (not written || (state_in old.states d cell.rec).lost)
  pub told : Told view standing stands table.columns (mended_event stripe d (Some cell) written) old.lines new.lines old.reports new.reports
  pub counts : AreCounts (mended_event stripe d (Some cell) written) repaired.counts
  pub blocks : repaired.blocks ≡ (if written then 1 else 0)
  pub makes : StepMakes (IsBlockCall (start_in (starts_at old.starts.columns d) cell.rec).place
      (cell_path table d cell) (block_start table cell) bytes)
      (block_calls (start_in (starts_at old.starts.columns d) cell.rec).place (state_in old.states d cell.rec).touched
      (cell_path table d cell) (block_start table cell) bytes) (not written) old.folder new.folder
  pub holds : (first : FolderView) (writes : List (List Write)) → first.tells ≡ old.folder.tells
      → (IsTrue first.tells → IsFree first.tree (cell_path table d cell)) → (IsTrue first.tells → IsTree first.tree)
      → HoldsTold (records_in table d) (starts_at old.starts.columns d) (get_or old.states d []) writes first old.folder
      → HoldsTold (records_in table d) (starts_at new.starts.columns d) (get_or new.states d []) (mended_writes table cell bytes written writes) first new.folder

-- A call failed, the last of such calls, and nothing was told.
pub record WritesNotBlockOf {W R : Type 0} (view : W → SinkView) (standing : R → ReportView) (stands : R → List Event → Type 0)
    (table : TableValue) (d : ℕ) (cell : Cell) (bytes : List ℕ) (old new : ColumnOutside W R) : Type 0 where
  pub told : Told view standing stands table.columns [] old.lines new.lines old.reports new.reports
  pub fails : StepFails (IsBlockCall (start_in (starts_at old.starts.columns d) cell.rec).place (cell_path table d cell) (block_start table cell) bytes)
      (block_calls (start_in (starts_at old.starts.columns d) cell.rec).place (state_in old.states d cell.rec).touched
      (cell_path table d cell) (block_start table cell) bytes) old.folder new.folder

-- ---- one level

-- One level of a row was written to the block of a stripe, and that told; it stands there then.
pub record WritesLevel {W R : Type 0} (view : W → SinkView) (standing : R → ReportView) (stands : R → List Event → Type 0)
    (columns : List Column) (block_size stripe r : ℕ) (row : Row) (old new : LevelsOutside W R) : Type 0 where
  pub calls : SomeCalls old.vault new.vault
  pub ran : GoesOn old.vault new.vault (done_well (ParityWrite r (stripe * block_size) (level_of r block_size row) ∷ []))
  pub drafts : DraftsStay old.vault new.vault
  pub changes : ChangesBy (TearsParity r (stripe * block_size) block_size) old.vault new.vault
  pub put : IsTrue old.vault.tells → new.vault.files ≡ with_parity old.vault.files r (put (parity_of old.vault.files r) (stripe * block_size) (level_of r block_size row))
  pub written : Reads (λ (files : Files). HasLevel block_size r stripe row (parity_of files r)) new.vault
  pub told : Told view standing stands columns (FixedParity stripe r ∷ []) old.lines new.lines old.reports new.reports

-- The call failed, and nothing was told.
pub record WritesNotLevel {W R : Type 0} (view : W → SinkView) (standing : R → ReportView) (stands : R → List Event → Type 0)
    (columns : List Column) (block_size stripe r : ℕ) (row : Row) (old new : LevelsOutside W R) : Type 0 where
  pub rose : Rose old.vault.faults new.vault.faults
  pub call : IsTrue new.vault.tells_calls → Gained broke_parity old.vault.calls new.vault.calls
  pub calls : SomeCalls old.vault new.vault
  pub ran : GoesOn old.vault new.vault (plain_done (ParityWrite r (stripe * block_size) (level_of r block_size row)) true ∷ [])
  pub drafts : DraftsStay old.vault new.vault
  pub changes : ChangesBy (TearsParity r (stripe * block_size) block_size) old.vault new.vault
  pub told : Told view standing stands columns [] old.lines new.lines old.reports new.reports
