-- Stripes that are looked at and written anew, one after another.
use Rattle.std.specs.Prelude.{◌≡◌, ◌⊎◌, ℕ, ◌<◌, ◌≤◌, List, [], ◌∷◌, ◌++◌, length, map, take, get_or, sum_by, Bool, true, false, IsTrue, None}
use Rattle.std.specs.List.{list_any}
use Rattle.disk_model.specs.Cause.{Rose}
use Rattle.disk_model.specs.Folder.{FolderView}
use Rattle.disk_model.specs.Sink.{SinkView}
use Rattle.disk_model.specs.Vault.{VaultView, GoesOn, SomeCalls, ChangesBy, DraftsStay, Reads}
use Rattle.file_table.specs.declared.shape.Shape.{Shape}
use Rattle.snap_report.specs.Answer.{Gained, broke_folder}
use Rattle.file_restorer.specs.Breaking.{broke_parity}
use Rattle.snap_fix.specs.BrokenStripe.{BreaksLevels, broken_events}
use Rattle.snap_report.specs.Report.{ReportView}
use Rattle.snap_report.specs.Told.{Told}
use Rattle.snap_report.specs.declared.answer.RunFault.{RunFault}
use Rattle.snap_report.specs.declared.answer.RunFault.TheVariants.{Folder, Vault, Memory}
use Rattle.snap_report.specs.declared.events.Event.{Event}
use Rattle.snap_report.specs.declared.pages.Lines.{Lines}
use Rattle.stripe_reader.specs.Column.{IsReadingOf}
use Rattle.stripe_reader.specs.Columns.{folder_at}
use Rattle.stripe_reader.specs.Reading.{CellReading, Task, task_at}
use Rattle.stripe_reader.specs.Slot.{kept}
use Rattle.stripe_reader.specs.SlotValue.{SlotValue}
use Rattle.stripe_reader.specs.Starts.{StartsValue, StartsFit}
use Rattle.snap_fix.specs.declared.fixing.Totals.{Totals}
use Rattle.file_restorer.specs.declared.state.FileState.{FileState}
use Rattle.stripe_examiner.specs.Counts.{AreCounts, at_most}
use Rattle.stripe_examiner.specs.Facts.{StripeFacts, slot_of}
use Rattle.snap_fix.specs.Mended.{Mended, AnswersFit, all_mended_events, mended_events, is_wrong_level, written_in, wrong_in}
use Rattle.file_restorer.specs.Mending.{StatesFit}
use Rattle.repair_scope.specs.Plan.{FixPlan}
use Rattle.snap_fix.specs.Repairing.{FailsInCell}
use Rattle.stripe_examiner.specs.Spare.{SpareView, IsSpareFor}
use Rattle.file_restorer.specs.State.{FolderMakesBy, KeepsStarts}
use Rattle.snap_fix.specs.Underway.{AreFixable, AreMendCalls, AreUnderway, AddsZeros, KeepsLevels, IsMendedLevel, HoldsWrong, done_well, wrong_writes}

-- all that a fix works on: where files stand, what was done to them, which levels were written, the folders, the vault, the spare, the
-- lines, and those who are told
pub record FixScene (W R : Type 0) : Type 1 where
  pub starts : StartsValue
  pub states : List (List FileState)
  pub written : List Bool
  pub folders : List FolderView
  pub vault : VaultView
  pub spare : SpareView
  pub lines : Lines W
  pub reports : List R

abbrev pub fix_scene : {W R : Type 0} → StartsValue → List (List FileState) → List Bool → List FolderView → VaultView → SpareView → Lines W → List R → FixScene W R
fix_scene starts states written folders vault spare lines reports = record {
  starts = starts;
  states = states;
  written = written;
  folders = folders;
  vault = vault;
  spare = spare;
  lines = lines;
  reports = reports;
}

-- its parts fit the plan
pub record SceneFits {W R : Type 0} (plan : FixPlan) (scene : FixScene W R) : Type 0 where
  pub folders : length scene.folders ≡ length plan.table.columns
  pub starts : StartsFit plan.table scene.starts
  pub states : StatesFit plan.table scene.states
  pub written : length scene.written ≡ plan.table.shape.levels
  pub levels : scene.vault.levels ≡ plan.table.shape.levels
  pub spare : IsSpareFor plan.table.shape scene.spare

-- the facts of stripes
abbrev pub facts_of : List Mended → List StripeFacts
facts_of stripes = map (λ (mended : Mended). mended.facts) stripes

-- a stripe with these facts, and of each column whether its block was there to be written
abbrev pub with_answers : StripeFacts → List Bool → Mended
with_answers facts answers = record { facts = facts; answers = answers }

-- stripes with these facts, of which no block was there to be written
abbrev pub unwritten : List StripeFacts → List Mended
unwritten stripes = map (λ (facts : StripeFacts). with_answers facts []) stripes

-- ---- what was counted, and which levels were written

pub record AreTotals (plan : FixPlan) (stripes : List Mended) (totals : Totals) : Type 0 where
  pub counts : AreCounts (all_mended_events plan stripes) totals.counts
  pub blocks : totals.blocks ≡ at_most (sum_by (written_in plan) stripes)
  pub parities : totals.parities ≡ at_most (sum_by (wrong_in plan) stripes)

abbrev pub was_written : FixPlan → List Mended → ℕ → Bool
was_written plan stripes r = list_any (λ (mended : Mended). is_wrong_level plan mended.facts r) stripes

-- the levels of these stripes were written besides those that were before
abbrev pub Writes : FixPlan → List Mended → List Bool → List Bool → Type 0
Writes plan stripes before after = (length after ≡ length before) × ((r : ℕ) → r < length before
    → (get_or after r false ≡ true → (get_or before r false ≡ true) ⊎ (was_written plan stripes r ≡ true))
    × ((get_or before r false ≡ true) ⊎ (was_written plan stripes r ≡ true) → get_or after r false ≡ true))

-- ---- what was read

-- a slot keeps a reading of the task
pub record IsCellRead (shape : Shape) (folder : FolderView) (task : Task) (slot : SlotValue) : Type 0 where
  pub reading : CellReading
  pub is_of : IsReadingOf folder task reading
  pub is_kept : slot ≡ kept shape reading

-- The cells of a stripe were read of the folders once the first so many stripes had been written anew.
pub record IsReadThen (plan : FixPlan) (begun : StartsValue) (firsts : List FolderView) (stripes : List Mended) (k : ℕ) (facts : StripeFacts) : Type 0 where
  pub count : ℕ
  pub earlier : count ≤ k
  pub starts : StartsValue
  pub stood : KeepsStarts begun starts
  pub states : List (List FileState)
  pub folders : List FolderView
  pub underway : AreUnderway plan (take count stripes) firsts folders starts states
  pub cells : (d : ℕ) → d < length plan.table.columns
      → IsCellRead plan.table.shape (folder_at folders d) (task_at plan.table starts d facts.stripe) (slot_of facts d)

-- what stands for a stripe that is not there
abbrev pub no_mended : Mended
no_mended = record { facts = record { stripe = 0; slots = []; gifts = []; levels = []; row = None }; answers = [] }

abbrev pub mended_at : List Mended → ℕ → Mended
mended_at stripes k = get_or stripes k no_mended

abbrev pub AreReadThen : FixPlan → StartsValue → List FolderView → List Mended → Type 0
AreReadThen plan begun firsts stripes =
    (k : ℕ) → k < length stripes → IsReadThen plan begun firsts stripes k (mended_at stripes k).facts

-- ---- one stripe

-- what was done to the vault: the wrong levels of stripes were written, and nothing else of it changed
pub record MendsVault (plan : FixPlan) (stripes : List StripeFacts) (old new : VaultView) : Type 0 where
  pub calls : SomeCalls old new
  pub drafts : DraftsStay old new
  pub changes : ChangesBy (KeepsLevels plan.table.shape.block_size (IsMendedLevel plan stripes)) old new

-- The stripe with these facts was told, and its damaged blocks and wrong levels were written. Whatever the fix did
-- before, it goes on with this stripe.
pub record FixesStripe {W R : Type 0} (view : W → SinkView) (standing : R → ReportView) (stands : R → List Event → Type 0)
    (plan : FixPlan) (facts : StripeFacts) (old new : FixScene W R) (totals : Totals) : Type 0 where
  pub answers : List Bool
  pub as_many : length answers ≡ length plan.table.columns
  pub fits : SceneFits plan new
  pub told : Told view standing stands plan.table.columns (mended_events plan (with_answers facts answers)) old.lines new.lines old.reports new.reports
  pub totals_are : AreTotals plan (with_answers facts answers ∷ []) totals
  pub written : Writes plan (with_answers facts answers ∷ []) old.written new.written
  pub answers_fit : AnswersFit plan old.folders (with_answers facts answers)
  pub stood : KeepsStarts old.starts new.starts
  pub ran : GoesOn old.vault new.vault (done_well (wrong_writes plan facts))
  pub vault : MendsVault plan (facts ∷ []) old.vault new.vault
  pub zeros : IsTrue old.vault.tells → AddsZeros plan.table.shape.block_size (IsMendedLevel plan (facts ∷ [])) old.vault.files new.vault.files
  pub holds : Reads (HoldsWrong plan facts) new.vault
  pub spare : new.spare ≡ old.spare
  pub makes : (d : ℕ) → d < length plan.table.columns
      → FolderMakesBy (AreMendCalls plan old.starts d (with_answers facts answers)) (folder_at old.folders d) (folder_at new.folders d)
  pub underway : (stripes : List Mended) (firsts : List FolderView) → AreFixable plan firsts
      → AreUnderway plan stripes firsts old.folders old.starts old.states
      → AreUnderway plan (stripes ++ with_answers facts answers ∷ []) firsts new.folders new.starts new.states

-- ---- how a fix breaks off

-- an object failed in a call that does not read, since some moment: its count rose, and a failed call was gained
pub record FolderBroke (old new : FolderView) : Type 0 where
  pub rose : Rose old.faults new.faults
  pub call : IsTrue new.tells_calls → Gained broke_folder old.calls new.calls

-- the same of a vault
pub record VaultBroke (old new : VaultView) : Type 0 where
  pub rose : Rose old.faults new.faults
  pub call : IsTrue new.tells_calls → Gained broke_parity old.calls new.calls

abbrev pub IsBrokenBy : FixPlan → RunFault → List FolderView → List FolderView → VaultView → VaultView → Type 0
IsBrokenBy plan (Folder disk) olds news old new = (disk < length plan.table.columns) × FolderBroke (folder_at olds disk) (folder_at news disk)
IsBrokenBy plan Vault olds news old new = VaultBroke old new
IsBrokenBy plan Memory olds news old new = ⊥

-- the stripes whose levels were begun to be written: where a folder failed, not those of the last one
abbrev pub levels_begun : RunFault → List StripeFacts → StripeFacts → List StripeFacts
levels_begun (Folder disk) earlier last = earlier
levels_begun Vault earlier last = earlier ++ last ∷ []
levels_begun Memory earlier last = earlier

-- These are the events that a stripe tells that broke off, the first ones of all its events.
pub record TellsOfBroken (plan : FixPlan) (fault : RunFault) (level : ℕ) (mended : Mended) (told : List Event)
    : Type 0 where
  pub told_is : told ≡ broken_events fault plan mended level
  pub rest : List Event
  pub events : mended_events plan mended ≡ told ++ rest

-- All blocks of a stripe were written: no call of a folder failed but readings, and whatever the fix did before, it
-- goes on with this stripe.
pub record WritesCells (plan : FixPlan) (mended : Mended) (begun : StartsValue) (begun_states : List (List FileState))
    (olds news : List FolderView) : Type 0 where
  pub starts : StartsValue
  pub states : List (List FileState)
  pub stood : KeepsStarts begun starts
  pub makes : (d : ℕ) → d < length plan.table.columns
      → FolderMakesBy (AreMendCalls plan begun d mended) (folder_at olds d) (folder_at news d)
  pub underway : (stripes : List Mended) (firsts : List FolderView) → AreFixable plan firsts
      → AreUnderway plan stripes firsts olds begun begun_states
      → AreUnderway plan (stripes ++ mended ∷ []) firsts news starts states

-- The blocks of a stripe that broke off: where a folder failed, calls for it were made up to the one that did, and
-- where the vault failed, all blocks were written.
abbrev pub BreaksCells : RunFault → FixPlan → Mended → StartsValue → List (List FileState) → List FolderView
    → List FolderView → Type 0
BreaksCells (Folder disk) plan mended starts states olds news =
    FailsInCell disk plan starts mended olds news
BreaksCells Vault plan mended starts states olds news = WritesCells plan mended starts states olds news
BreaksCells Memory plan mended starts states olds news = ⊥

-- A stripe with these facts that broke off: what was found and what was written was told, and only calls were made that
-- it asks for, none of a folder behind one that failed. Where a call of the vault failed, all its blocks were written, and
-- that call is the write of this wrong level; else no level was written.
pub record BreaksStripe {W R : Type 0} (view : W → SinkView) (standing : R → ReportView) (stands : R → List Event → Type 0)
    (plan : FixPlan) (facts : StripeFacts) (old new : FixScene W R) (fault : RunFault) : Type 0 where
  pub answers : List Bool
  pub level : ℕ
  pub first : List Event
  pub tells : TellsOfBroken plan fault level (with_answers facts answers) first
  pub told : Told view standing stands plan.table.columns first old.lines new.lines old.reports new.reports
  pub folders : length new.folders ≡ length old.folders
  pub answers_fit : AnswersFit plan old.folders (with_answers facts answers)
  pub ran : BreaksLevels fault plan facts level [] old.vault new.vault
  pub vault : MendsVault plan (levels_begun fault [] facts) old.vault new.vault
  pub spare : new.spare ≡ old.spare
  pub makes : BreaksCells fault plan (with_answers facts answers) old.starts old.states old.folders new.folders
  pub broke : IsBrokenBy plan fault old.folders new.folders old.vault new.vault
