-- A fix as a whole.
use Rattle.std.specs.Prelude.{◌≡◌, ℕ, ◌<◌, List, [], ◌++◌, length, sum_by, count_by, All, Bool, true, false, IsTrue}
use Rattle.std.specs.List.{range_with_len, flat_map}
use Rattle.folder_listing.specs.Kept.{ListedFile}
use Rattle.folder_listing.specs.Listings.{ListsAll}
use Rattle.disk_model.specs.Cause.{RoseBy}
use Rattle.disk_model.specs.Folder.{FolderView, FolderCall, ListFiles, Look, ReadAt, Make, WriteAt, SetSize, SetStamp, Rename}
use Rattle.disk_model.specs.Sink.{SinkView}
use Rattle.disk_model.specs.Tree.{Tree}
use Rattle.disk_model.specs.Vault.{VaultView, VaultCall, VaultDone, GoesOn}
use Rattle.disk_model.specs.declared.meta.Meta.{Meta}
use Rattle.file_table.specs.Table.{TableValue, record_at, records_in}
use Rattle.parity_writer.specs.LevelReading.{LevelReading}
use Rattle.array_setup.specs.declared.ways.Selection.{Selection}
use Rattle.snap_report.specs.Answer.{is_io_of}
use Rattle.snap_report.specs.EndLines.{fix_text}
use Rattle.snap_report.specs.EventLines.{lines_of}
use Rattle.snap_report.specs.Kind.{is_finding, is_left}
use Rattle.snap_report.specs.Report.{ReportView, AllGiven}
use Rattle.snap_report.specs.State.{Puts, state_of}
use Rattle.snap_report.specs.Telling.{Settled}
use Rattle.snap_report.specs.declared.events.Event.{Event}
use Rattle.stripe_reader.specs.Columns.{folder_at}
use Rattle.stripe_reader.specs.Starts.{StartsValue, start_in, starts_at}
use Rattle.stripe_reader.specs.declared.starts.Place.{Place}
use Rattle.stripe_reader.specs.declared.starts.Place.TheVariants.{Lost, Nowhere}
use Rattle.snap_fix.specs.declared.checks.FixEnd.{FixEnd}
use Rattle.file_restorer.specs.declared.finishing.Finish.{Finish}
use Rattle.repair_scope.specs.declared.scope.Mode.{Mode}
use Rattle.file_restorer.specs.declared.state.FileState.{FileState}
use Rattle.stripe_examiner.specs.Asking.{AsksSpare}
use Rattle.stripe_examiner.specs.Counts.{at_most}
use Rattle.snap_fix.specs.Course.{IsPlan, Outside}
use Rattle.snap_fix.specs.Ending.{FinishesColumn, IsLevelSettled, all_finish_news, column_calls, states_at, sync_if}
use Rattle.stripe_examiner.specs.Findings.{opening_events}
use Rattle.snap_fix.specs.FixRun.{HoldAllWrong}
use Rattle.snap_fix.specs.FolderWindows.{GoInWindows}
use Rattle.stripe_examiner.specs.Present.{ArePresent}
use Rattle.snap_fix.specs.Fixing.{MendsVault, facts_of, was_written}
use Rattle.stripe_examiner.specs.Known.{AreFacts}
use Rattle.stripe_examiner.specs.Looking.{AreAllLevelsOf, numbers_of, unread_cells, unread_in}
use Rattle.snap_fix.specs.Mended.{AnswersFit, Mended, has_lost, all_mended_events, written_in, wrong_in}
use Rattle.file_restorer.specs.Order.{FolderWrites}
use Rattle.repair_scope.specs.Plan.{FixPlan, entry_at, stripes_of}
use Rattle.stripe_examiner.specs.Place.{starts_of}
use Rattle.snap_fix.specs.Reads.{AreReadBy, FolderReads}
use Rattle.file_restorer.specs.State.{AnyCall, FolderMakes, FolderMakesBy, KeepsStarts, record_path}
use Rattle.snap_fix.specs.StripeOrder.{writes_after}
use Rattle.snap_fix.specs.Underway.{AddsZeros, AreStripeCalls, AreUnderway, IsMendedLevel, WritesOneOf, done_well}
use Rattle.snap_fix.specs.Windows.{AreWindows, FixWindow, mend_calls}

-- the folders of all columns that have records are open
abbrev pub AreOpen : TableValue → List FolderView → Type 0
AreOpen table folders = (d : ℕ) → d < length folders → 0 < length (records_in table d) → (folder_at folders d).closed ≡ false

-- all events of a fix
abbrev pub fix_events : FixPlan → List Mended → List (List Finish) → List Event
fix_events plan stripes finishes = opening_events plan ++ (all_mended_events plan stripes ++ all_finish_news plan finishes)

-- where the files stood, what was done to them, and what their folders held, once all blocks were written
pub record Written : Type 0 where
  pub starts : StartsValue
  pub states : List (List FileState)
  pub folders : List FolderView

-- What a fix knows of some stripes: their facts, of what stood in the folders and in the levels at first; and each of their cells that is
-- to be written is, where its folder tells its files.
pub record FixFinds (plan : FixPlan) (starts : StartsValue) (firsts : List FolderView) (vault : VaultView) (stripes : List Mended)
    (readings : List (List LevelReading)) : Type 0 where
  pub are : All (AreFacts plan) (facts_of stripes)
  pub cells : ArePresent plan starts firsts (facts_of stripes)
  pub levels : AreAllLevelsOf plan.table.shape.block_size vault (facts_of stripes) readings
  pub answered : All (AnswersFit plan firsts) stripes

-- one sync of each level that was written, in order, and all calls of a fix: window after window the levels of its stripes are read and
-- the wrong ones written, and then those levels are synced
abbrev pub mend_syncs : FixPlan → List Mended → List VaultCall
mend_syncs plan stripes = flat_map (λ (r : ℕ). sync_if (was_written plan stripes r) r) (range_with_len 0 plan.table.shape.levels)

abbrev pub fix_calls : FixPlan → List Mended → List FixWindow → List VaultDone
fix_calls plan stripes windows = mend_calls plan windows ++ done_well (mend_syncs plan stripes)

-- What a fix did to the vault: its stripes are cut into windows, and just these calls were made; the wrong levels of its stripes were
-- written and nothing else changed, and a level grew by zeros and such blocks alone; each that was written is synced.
pub record FixesVault (plan : FixPlan) (stripes : List Mended) (readings : List (List LevelReading)) (old new : VaultView) : Type 0 where
  pub windows : List FixWindow
  pub windows_are : AreWindows plan windows (facts_of stripes) readings
  pub ran : GoesOn old new (fix_calls plan stripes windows)
  pub unread : RoseBy (unread_in readings) old.faults new.faults
  pub mends : MendsVault plan (facts_of stripes) old new
  pub zeros : IsTrue old.tells → AddsZeros plan.table.shape.block_size (IsMendedLevel plan (facts_of stripes)) old.files new.files
  pub holds : HoldAllWrong plan (facts_of stripes) new
  pub synced : (level : ℕ) → level < plan.table.shape.levels → was_written plan stripes level ≡ true → IsLevelSettled level new new

-- a record is selected, and isn't blocked
pub record IsForRecord (plan : FixPlan) (d i : ℕ) (path : List ℕ) : Type 0 where
  pub within : i < length (records_in plan.table d)
  pub path_is : path ≡ record_path (records_in plan.table d) i
  pub selected : (entry_at plan d i).selected ≡ true
  pub free : (entry_at plan d i).blocked ≡ false

-- so is one whose file stood in this place
abbrev pub IsForPlace : FixPlan → StartsValue → ℕ → Place → List ℕ → Type 0
IsForPlace plan starts d place path =
    (i : ℕ) × IsForRecord plan d i path × ((start_in (starts_at starts.columns d) i).place ≡ place)

-- so is one with a lost block in these stripes, or without, and its recorded size and stamp are such
abbrev pub IsForRecordOf : FixPlan → List Mended → ℕ → Bool → List ℕ → (Meta → Type 0) → Type 0
IsForRecordOf plan stripes d lost path P = (i : ℕ) × IsForRecord plan d i path × (has_lost plan stripes d i ≡ lost)
    × P (record_at plan.table.columns d i).meta

-- Any call of a fix of these stripes, once the folders are listed, by where files stood then: files are read; of the
-- records that are selected and not blocked, a file is made if there was none, renamed back if it had the other name, and
-- its known blocks are written; one without a lost block gets its recorded size and stamp, and one with a lost block is
-- renamed.
abbrev pub IsFixCall : FixPlan → StartsValue → ℕ → List Mended → FolderCall → Type 0
IsFixCall plan starts d stripes ListFiles = ⊥
IsFixCall plan starts d stripes (Look path lost) = Unit {0}
IsFixCall plan starts d stripes (ReadAt path lost at n) = Unit {0}
IsFixCall plan starts d stripes (Make path) = IsForPlace plan starts d Nowhere path
IsFixCall plan starts d stripes (WriteAt path at bytes) = WritesOneOf plan d stripes path at bytes
IsFixCall plan starts d stripes (SetSize path size) = IsForRecordOf plan stripes d false path (λ meta. size ≡ meta.size)
IsFixCall plan starts d stripes (SetStamp path stamp) = IsForRecordOf plan stripes d false path (λ meta. stamp ≡ meta.stamp)
IsFixCall plan starts d stripes (Rename path true) = IsForRecordOf plan stripes d true path (λ meta. Unit {0})
IsFixCall plan starts d stripes (Rename path false) = IsForPlace plan starts d Lost path

-- only such calls were made of the folders
abbrev pub MakeFixCalls : FixPlan → StartsValue → List Mended → List FolderView → List FolderView → Type 0
MakeFixCalls plan starts stripes firsts news = (d : ℕ) → d < length plan.table.columns
    → FolderMakes (AnyCall (IsFixCall plan starts d stripes)) (folder_at firsts d) (folder_at news d)

-- All blocks were written: what was done to the files so far.
pub record WritesFiles (plan : FixPlan) (starts : StartsValue) (stripes : List Mended) (firsts : List FolderView) (written : Written) : Type 0 where
  pub stood : KeepsStarts starts written.starts
  pub underway : AreUnderway plan stripes firsts written.folders written.starts written.states
  pub makes : (d : ℕ) → d < length plan.table.columns
      → FolderMakesBy (AreStripeCalls plan starts d stripes) (folder_at firsts d) (folder_at written.folders d)

-- The calls of a folder that write: stripe after stripe each known block of a damaged cell is written, by where files stood at first; and
-- when all are, record after record is finished.
abbrev pub fix_folder_calls : FixPlan → ℕ → Tree → List Mended → Written → List FolderCall
fix_folder_calls plan d first stripes written =
    writes_after plan d first [] stripes ++ column_calls plan d (starts_at written.starts.columns d) (states_at written.states d)

-- What a fix did to the files: all blocks were written, and then the selected records that aren't blocked were finished. Just these calls
-- that write were made of a folder that tells its files, in this order. Its cells were read stripe after stripe, each
-- once, and nothing else. All its calls came window by window: the readings of one, and behind them its writes.
pub record FixesFiles (plan : FixPlan) (starts : StartsValue) (stripes : List Mended) (finishes : List (List Finish)) (firsts news : List FolderView) : Type 0 where
  pub written : Written
  pub writes : WritesFiles plan starts stripes firsts written
  pub folders : length news ≡ length firsts
  pub calls : MakeFixCalls plan starts stripes firsts news
  pub reads : (d : ℕ) → d < length plan.table.columns
      → FolderReads (AreReadBy plan starts written.starts d (facts_of stripes))
      (folder_at firsts d) (folder_at news d)
  pub in_windows : GoInWindows plan starts written.starts written.states stripes finishes firsts news
  pub finished : (d : ℕ) → d < length plan.table.columns
      → FinishesColumn plan written.starts written.states d finishes (folder_at written.folders d) (folder_at news d)
  pub ordered : (d : ℕ) → d < length plan.table.columns → IsTrue (folder_at firsts d).tells
      → FolderWrites (fix_folder_calls plan d (folder_at firsts d).tree stripes written) (folder_at firsts d) (folder_at news d)

-- A fix: each folder was listed once; then, window by window, the cells and levels of stripes with something selected were read, and
-- what is damaged and known was written; then the levels that were written were synced, and the files of the selected records finished.
-- Just what follows of that was told, and the last line counts it.
pub record Fixes {W R : Type 0} (view : W → SinkView) (standing : R → ReportView) (stands : R → List Event → Type 0)
    (mode : Mode) (selection : Selection) (names : List (List ℕ)) (table : TableValue) (old new : Outside W R) (end : FixEnd) : Type 0 where
  pub lists : List (List ListedFile)
  pub mids : List FolderView
  pub as_many : length mids ≡ length old.folders
  pub listed : ListsAll old.folders mids lists
  pub plan : FixPlan
  pub plan_is : IsPlan mode selection names table lists plan
  pub stripes : List Mended
  pub numbers : numbers_of (facts_of stripes) ≡ stripes_of plan
  pub readings : List (List LevelReading)
  pub finds : FixFinds plan (starts_of table lists) mids old.vault stripes readings
  pub spare : AsksSpare plan (facts_of stripes) old.spare new.spare
  pub vault : FixesVault plan stripes readings old.vault new.vault
  pub finishes : List (List Finish)
  pub files : FixesFiles plan (starts_of table lists) stripes finishes mids new.folders
  pub unread : (d : ℕ) → d < length plan.table.columns
      → RoseBy (unread_cells d (facts_of stripes)) (folder_at old.folders d).faults (folder_at new.folders d).faults
  pub io : (d : ℕ) → d < length plan.table.columns
      → RoseBy (count_by (is_io_of d) (fix_events plan stripes finishes)) (folder_at old.folders d).faults (folder_at new.folders d).faults
  pub given : AllGiven standing stands (lines_of table.columns (fix_events plan stripes finishes)) (fix_events plan stripes finishes) old.reports new.reports
  pub puts : Puts view (lines_of table.columns (fix_events plan stripes finishes) ++ fix_text end.blocks end.parities end.left) old.lines new.lines
  pub settled : Settled (state_of view new.lines)
  pub findings : end.findings ≡ at_most (count_by is_finding (fix_events plan stripes finishes))
  pub left : end.left ≡ at_most (count_by is_left (fix_events plan stripes finishes))
  pub blocks : end.blocks ≡ at_most (sum_by (written_in plan) stripes)
  pub parities : end.parities ≡ at_most (sum_by (wrong_in plan) stripes)
