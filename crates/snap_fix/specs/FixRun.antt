-- All stripes of a fix.
use Rattle.std.specs.Prelude.{◌≡◌, ◌⊎◌, ℕ, ◌+◌, ◌<◌, List, [], ◌∷◌, ◌++◌, length, count_by, IsTrue, All, AllPairs}
use Rattle.disk_model.specs.Cause.{RoseBy}
use Rattle.disk_model.specs.Folder.{FolderView}
use Rattle.disk_model.specs.Sink.{SinkView}
use Rattle.disk_model.specs.Vault.{VaultView, GoesOn, Reads}
use Rattle.parity_writer.specs.LevelReading.{LevelReading}
use Rattle.snap_report.specs.Answer.{Gained, broke_folder, is_io_of, is_parity_io}
use Rattle.file_restorer.specs.Breaking.{broke_parity}
use Rattle.snap_fix.specs.BrokenStripe.{BreaksLevels}
use Rattle.snap_report.specs.Report.{ReportView}
use Rattle.snap_report.specs.Told.{Told}
use Rattle.snap_report.specs.declared.answer.RunFault.{RunFault}
use Rattle.snap_report.specs.declared.answer.RunFault.TheVariants.{Folder, Vault, Memory}
use Rattle.snap_report.specs.declared.events.Event.{Event}
use Rattle.stripe_reader.specs.Columns.{ReadsWindow, folder_at}
use Rattle.stripe_reader.specs.Starts.{StartsValue}
use Rattle.stripe_reader.specs.WindowValue.{WindowValue}
use Rattle.snap_fix.specs.declared.fixing.Totals.{Totals}
use Rattle.file_restorer.specs.declared.state.FileState.{FileState}
use Rattle.stripe_examiner.specs.Asking.{AsksSpare}
use Rattle.stripe_examiner.specs.Facts.{StripeFacts}
use Rattle.snap_fix.specs.FolderWindows.{AreAllWindowCalls}
use Rattle.snap_fix.specs.Fixing.{AreTotals, AreReadThen, BreaksCells, FixScene, FolderBroke, IsBrokenBy, MendsVault, SceneFits, TellsOfBroken, Writes, facts_of, levels_begun, unwritten}
use Rattle.stripe_examiner.specs.Known.{AreFacts}
use Rattle.stripe_examiner.specs.Looking.{AreAllLevelsOf, numbers_of, facts_at, unread_cells, unread_in}
use Rattle.stripe_examiner.specs.Marks.{slots_at}
use Rattle.snap_fix.specs.Mended.{Mended, AnswersFit, all_mended_events}
use Rattle.repair_scope.specs.Plan.{EntriesFit, FixPlan}
use Rattle.stripe_examiner.specs.declared.room.Room.{Room}
use Rattle.snap_fix.specs.Reads.{AreAllRead, AreReadBy, FolderReads, IsQuiet}
use Rattle.stripe_examiner.specs.Room.{IsRoomFor}
use Rattle.file_restorer.specs.State.{FolderMakesBy, KeepsStarts}
use Rattle.snap_fix.specs.Underway.{AddsZeros, AreAllMendCalls, AreFixable, AreStripeCalls, AreUnderway, HoldsWrong, IsMendedLevel, done_well}
use Rattle.snap_fix.specs.Windows.{AreWindows, FillWindows, FixWindow, all_wrong_writes, mend_calls, stripes_in, window_of, window_reads, window_size}

-- the stripes are looked at in ascending order, none twice
abbrev pub AreAscending : List ℕ → Type 0
AreAscending numbers = AllPairs (λ (a b : ℕ). a < b) numbers

-- the wrong levels of each of these stripes hold the sums of its row
abbrev pub HoldAllWrong : FixPlan → List StripeFacts → VaultView → Type 0
HoldAllWrong plan stripes v = Reads (λ files. All (λ (facts : StripeFacts). HoldsWrong plan facts files) stripes) v

-- These stripes were written anew: just their events were told, and whatever the fix did before, it goes on with them.
pub record MendsAll {W R : Type 0} (view : W → SinkView) (standing : R → ReportView) (stands : R → List Event → Type 0)
    (plan : FixPlan) (stripes : List Mended) (old new : FixScene W R) (totals : Totals) : Type 0 where
  pub fits : SceneFits plan new
  pub told : Told view standing stands plan.table.columns (all_mended_events plan stripes) old.lines new.lines
      old.reports new.reports
  pub totals_are : AreTotals plan stripes totals
  pub written : Writes plan stripes old.written new.written
  pub answered : All (AnswersFit plan old.folders) stripes
  pub stood : KeepsStarts old.starts new.starts
  pub vault : MendsVault plan (facts_of stripes) old.vault new.vault
  pub zeros : IsTrue old.vault.tells
      → AddsZeros plan.table.shape.block_size (IsMendedLevel plan (facts_of stripes)) old.vault.files new.vault.files
  pub holds : HoldAllWrong plan (facts_of stripes) new.vault
  pub makes : (d : ℕ) → d < length plan.table.columns
      → FolderMakesBy (AreStripeCalls plan old.starts d stripes)
      (folder_at old.folders d) (folder_at new.folders d)
  pub underway : (before : List Mended) (firsts : List FolderView) → AreFixable plan firsts
      → AreUnderway plan before firsts old.folders old.starts old.states
      → AreUnderway plan (before ++ stripes) firsts new.folders new.starts new.states

-- of the folders just the blocks of these stripes' cells that are to be written were written, stripe after stripe
abbrev pub WritesInto : FixPlan → StartsValue → List Mended → List FolderView → List FolderView → Type 0
WritesInto plan starts stripes olds news = (d : ℕ) → d < length plan.table.columns
    → FolderMakesBy (AreAllMendCalls plan starts d stripes) (folder_at olds d) (folder_at news d)

-- Stripes of a window, whose levels were read before, were written anew: of the vault only their wrong levels were
-- written, the spare was not asked, and no folder was read.
pub record MendsInto {W R : Type 0} (view : W → SinkView) (standing : R → ReportView) (stands : R → List Event → Type 0)
    (plan : FixPlan) (facts : List StripeFacts) (old new : FixScene W R) (totals : Totals) : Type 0 where
  pub stripes : List Mended
  pub facts_are : facts_of stripes ≡ facts
  pub mends : MendsAll view standing stands plan stripes old new totals
  pub cells : WritesInto plan old.starts stripes old.folders new.folders
  pub wrote : GoesOn old.vault new.vault (done_well (all_wrong_writes plan (facts_of stripes)))
  pub spare : new.spare ≡ old.spare
  pub quiet : (d : ℕ) → d < length plan.table.columns
      → FolderReads IsQuiet (folder_at old.folders d) (folder_at new.folders d)

-- These stripes were looked at and written anew, window by window.
pub record FixesAll {W R : Type 0} (view : W → SinkView) (standing : R → ReportView) (stands : R → List Event → Type 0)
    (plan : FixPlan) (stripes : List Mended) (old new : FixScene W R) (totals : Totals) : Type 0 where
  pub are : All (AreFacts plan) (facts_of stripes)
  pub mends : MendsAll view standing stands plan stripes old new totals
  pub windows : List FixWindow
  pub readings : List (List LevelReading)
  pub windows_are : AreWindows plan windows (facts_of stripes) readings
  pub read : AreAllLevelsOf plan.table.shape.block_size old.vault (facts_of stripes) readings
  pub unread : RoseBy (unread_in readings) old.vault.faults new.vault.faults
  pub ran : GoesOn old.vault new.vault (mend_calls plan windows)
  pub spare : AsksSpare plan (facts_of stripes) old.spare new.spare

-- The stripes of one window were, as they were read into it, and no folder was read meanwhile.
pub record FixesInto {W R : Type 0} (view : W → SinkView) (standing : R → ReportView) (stands : R → List Event → Type 0)
    (plan : FixPlan) (numbers : List ℕ) (window : WindowValue) (old new : FixScene W R) (totals : Totals) : Type 0 where
  pub stripes : List Mended
  pub numbers_are : numbers_of (facts_of stripes) ≡ numbers
  pub slots : (k : ℕ) → k < length stripes → (facts_at (facts_of stripes) k).slots ≡ slots_at window k
  pub fixes : FixesAll view standing stands plan stripes old new totals
  pub alone : fixes.windows ≡ window_of (facts_of stripes) fixes.readings ∷ []
  pub cells : WritesInto plan old.starts stripes old.folders new.folders
  pub quiet : (d : ℕ) → d < length plan.table.columns
      → FolderReads IsQuiet (folder_at old.folders d) (folder_at new.folders d)

-- the same with other folders
abbrev pub with_folders : {W R : Type 0} → FixScene W R → List FolderView → FixScene W R
with_folders scene folders = record scene { folders = folders }

-- Stripes were read into the window, then looked at and written anew.
pub record FixesWindow {W R : Type 0} (view : W → SinkView) (standing : R → ReportView)
    (stands : R → List Event → Type 0) (plan : FixPlan) (numbers : List ℕ) (before : WindowValue)
    (old new : FixScene W R) (totals : Totals) : Type 0 where
  pub window : WindowValue
  pub mids : List FolderView
  pub read : ReadsWindow plan.table old.starts numbers before window old.folders mids
  pub fixes : FixesInto view standing stands plan numbers window (with_folders old mids) new totals

-- stripes of a table can be fixed: they are its stripes, ascending, and there is room for a window of them
pub record CanFixStripes (plan : FixPlan) (numbers : List ℕ) (room : Room) : Type 0 where
  pub entries : EntriesFit plan.table plan.entries
  pub within : All (λ stripe. stripe < length plan.table.infos) numbers
  pub room_is : IsRoomFor plan.table room
  pub ascending : AreAscending numbers

-- Stripes were read of the folders, looked at and written anew.
pub record FixesStripes {W R : Type 0} (view : W → SinkView) (standing : R → ReportView)
    (stands : R → List Event → Type 0) (plan : FixPlan) (numbers : List ℕ)
    (old new : FixScene W R) (totals : Totals) : Type 0 where
  pub stripes : List Mended
  pub numbers_are : numbers_of (facts_of stripes) ≡ numbers
  pub fixes : FixesAll view standing stands plan stripes old new totals
  pub read : (firsts : List FolderView) → AreFixable plan firsts
      → AreUnderway plan [] firsts old.folders old.starts old.states → AreReadThen plan old.starts firsts stripes
  pub reads : (d : ℕ) → d < length plan.table.columns
      → FolderReads (AreReadBy plan old.starts new.starts d (facts_of stripes))
      (folder_at old.folders d) (folder_at new.folders d)
  pub in_windows : (d : ℕ) → d < length plan.table.columns
      → FolderMakesBy (AreAllWindowCalls plan old.starts new.starts d fixes.windows stripes)
      (folder_at old.folders d) (folder_at new.folders d)
  pub unread : (d : ℕ) → d < length plan.table.columns
      → RoseBy (unread_cells d (facts_of stripes)) (folder_at old.folders d).faults (folder_at new.folders d).faults
  pub io : (d : ℕ) → d < length plan.table.columns
      → RoseBy (count_by (is_io_of d) (all_mended_events plan stripes))
      (folder_at old.folders d).faults (folder_at new.folders d).faults

-- ---- how it breaks off

-- since the start, an object failed otherwise than in the readings that were told
pub record FolderFailedBy (disk : ℕ) (told : List Event) (old new : FolderView) : Type 0 where
  pub rose : RoseBy (count_by (is_io_of disk) told + 1) old.faults new.faults
  pub call : IsTrue new.tells_calls → Gained broke_folder old.calls new.calls

pub record VaultFailedBy (told : List Event) (old new : VaultView) : Type 0 where
  pub rose : RoseBy (count_by is_parity_io told + 1) old.faults new.faults
  pub call : IsTrue new.tells_calls → Gained broke_parity old.calls new.calls

abbrev pub HasBroken : FixPlan → RunFault → List Event → List FolderView → List FolderView → VaultView → VaultView
    → Type 0
HasBroken plan (Folder disk) told olds news old new =
    (disk < length plan.table.columns) × FolderFailedBy disk told (folder_at olds disk) (folder_at news disk)
HasBroken plan Vault told olds news old new = VaultFailedBy told old new
HasBroken plan Memory told olds news old new = ⊥

-- The count of faults of the object that failed rose by its failed readings, of the cells of these stripes or of these levels, and by
-- at least one more.
abbrev pub RoseBeyond : RunFault → List StripeFacts → List (List LevelReading) → List FolderView → List FolderView → VaultView → VaultView
    → Type 0
RoseBeyond (Folder disk) stripes readings olds news old new =
    RoseBy (unread_cells disk stripes + 1) (folder_at olds disk).faults (folder_at news disk).faults
RoseBeyond Vault stripes readings olds news old new = RoseBy (unread_in readings + 1) old.faults new.faults
RoseBeyond Memory stripes readings olds news old new = ⊥

-- A fix broke off in the last one of these stripes, or where it was to be written: of the vault all calls for the windows
-- before that stripe's were made; then the levels of all stripes of that window were read, also of those behind it, and the
-- wrong ones of the stripes before it written. Of its own wrong levels, where a folder failed, none was written, and where a
-- call of the vault did, those below this level, and that of it, which failed. So only wrong levels of these stripes
-- changed, and of the last one only where the vault failed. Those of the stripes before it hold the sums of their rows.
pub record BreaksInLast (plan : FixPlan) (fault : RunFault) (level : ℕ) (earlier : List StripeFacts) (last : StripeFacts)
    (behind : List StripeFacts) (readings : List (List LevelReading)) (old new : VaultView) : Type 0 where
  pub windows : List FixWindow
  pub window : FixWindow
  pub windows_are : AreWindows plan (windows ++ window ∷ []) (earlier ++ last ∷ behind) readings
  pub front : List StripeFacts
  pub earlier_are : earlier ≡ stripes_in windows ++ front
  pub window_is : window.stripes ≡ front ++ last ∷ behind
  pub ran : BreaksLevels fault plan last level
      (mend_calls plan windows ++ (window_reads plan window ++ done_well (all_wrong_writes plan front))) old new
  pub vault : MendsVault plan (levels_begun fault earlier last) old new
  pub holds : HoldAllWrong plan earlier new

-- Of the next stripes behind those that were looked at, so many, cells and levels were read beside the last one of them, too: just
-- the rest of its window, to its full size or to the last stripe of all. These are their facts.
pub record LooksAhead (plan : FixPlan) (looked : ℕ) (ahead : FixWindow) (behind : List ℕ) (vault : VaultView) : Type 0 where
  pub are : All (AreFacts plan) ahead.stripes
  pub levels : AreAllLevelsOf plan.table.shape.block_size vault ahead.stripes ahead.readings
  pub more : List ℕ
  pub behind_is : behind ≡ numbers_of ahead.stripes ++ more
  pub few : length ahead.stripes < window_size plan
  pub to_the_end : (more ≡ []) ⊎ FillWindows plan (looked + length ahead.stripes)

-- Of the folders only calls that went well were made for the stripes before the last one, and whatever the fix did
-- before, it went on with them. Then calls were made for the last one, by where files stood then: where a folder
-- failed, up to the call of it that did, and where a call of the vault did, all its blocks were written.
pub record BreaksFolders (plan : FixPlan) (begun : StartsValue) (begun_states : List (List FileState))
    (fault : RunFault) (earlier : List Mended) (last : Mended) (olds news : List FolderView) : Type 0 where
  pub starts : StartsValue
  pub stood : KeepsStarts begun starts
  pub states : List (List FileState)
  pub mids : List FolderView
  pub makes : (d : ℕ) → d < length plan.table.columns
      → FolderMakesBy (AreStripeCalls plan begun d earlier) (folder_at olds d) (folder_at mids d)
  pub underway : (before : List Mended) (firsts : List FolderView) → AreFixable plan firsts
      → AreUnderway plan before firsts olds begun begun_states
      → AreUnderway plan (before ++ earlier) firsts mids starts states
  pub breaks : BreaksCells fault plan last starts states mids news

-- These events are all those of the stripes before the last one, and then those of the last one, where the fix
-- broke off.
pub record TellsInLast (plan : FixPlan) (fault : RunFault) (level : ℕ) (earlier : List Mended) (last : Mended)
    (first : List Event) : Type 0 where
  pub told : List Event
  pub first_is : first ≡ all_mended_events plan earlier ++ told
  pub tells : TellsOfBroken plan fault level last told

-- The first stripes of a window, whose levels were read before, were written anew, and the one after them broke off: of the
-- vault only their wrong levels were written, and of that one those below the level where the vault failed.
pub record MendsNotInto {W R : Type 0} (view : W → SinkView) (standing : R → ReportView)
    (stands : R → List Event → Type 0) (plan : FixPlan) (facts : List StripeFacts) (old new : FixScene W R)
    (fault : RunFault) : Type 0 where
  pub earlier : List Mended
  pub last : Mended
  pub behind : List StripeFacts
  pub facts_are : facts ≡ facts_of (earlier ++ last ∷ []) ++ behind
  pub level : ℕ
  pub first : List Event
  pub tells : TellsInLast plan fault level earlier last first
  pub told : Told view standing stands plan.table.columns first old.lines new.lines old.reports new.reports
  pub folders : length new.folders ≡ length old.folders
  pub answered : All (AnswersFit plan old.folders) (earlier ++ last ∷ [])
  pub ran : BreaksLevels fault plan last.facts level (done_well (all_wrong_writes plan (facts_of earlier))) old.vault new.vault
  pub vault : MendsVault plan (levels_begun fault (facts_of earlier) last.facts) old.vault new.vault
  pub holds : HoldAllWrong plan (facts_of earlier) new.vault
  pub spare : new.spare ≡ old.spare
  pub makes : BreaksFolders plan old.starts old.states fault earlier last old.folders new.folders
  pub quiet : (d : ℕ) → d < length plan.table.columns
      → FolderReads IsQuiet (folder_at old.folders d) (folder_at new.folders d)
  pub broke : IsBrokenBy plan fault old.folders new.folders old.vault new.vault

-- Some first stripes were written anew, and the one after them broke off: their events were told, of
-- that one what was found and what was written, and only calls were made that they ask for.
pub record BreaksStripes {W R : Type 0} (view : W → SinkView) (standing : R → ReportView)
    (stands : R → List Event → Type 0) (plan : FixPlan) (numbers : List ℕ)
    (old new : FixScene W R) (fault : RunFault) : Type 0 where
  pub earlier : List Mended
  pub last : Mended
  pub stripes : List Mended
  pub stripes_are : stripes ≡ earlier ++ last ∷ []
  pub behind : List ℕ
  pub numbers_are : numbers ≡ numbers_of (facts_of stripes) ++ behind
  pub ahead : FixWindow
  pub looked : LooksAhead plan (length stripes) ahead behind old.vault
  pub are : All (AreFacts plan) (facts_of stripes)
  pub level : ℕ
  pub first : List Event
  pub tells : TellsInLast plan fault level earlier last first
  pub told : Told view standing stands plan.table.columns first old.lines new.lines old.reports new.reports
  pub folders : length new.folders ≡ length old.folders
  pub answered : All (AnswersFit plan old.folders) stripes
  pub cells : (firsts : List FolderView) → AreFixable plan firsts → AreUnderway plan [] firsts old.folders old.starts old.states
      → AreReadThen plan old.starts firsts (stripes ++ unwritten ahead.stripes)
  pub reads : (d : ℕ) → d < length plan.table.columns
      → FolderReads (AreAllRead plan old.starts d (facts_of stripes ++ ahead.stripes))
      (folder_at old.folders d) (folder_at new.folders d)
  pub readings : List (List LevelReading)
  pub read : AreAllLevelsOf plan.table.shape.block_size old.vault (facts_of stripes) readings
  pub ran : BreaksInLast plan fault level (facts_of earlier) last.facts ahead.stripes (readings ++ ahead.readings) old.vault new.vault
  pub unread : RoseBy (unread_in (readings ++ ahead.readings)) old.vault.faults new.vault.faults
  pub unread_cells_of : (d : ℕ) → d < length plan.table.columns
      → RoseBy (unread_cells d (facts_of stripes ++ ahead.stripes)) (folder_at old.folders d).faults (folder_at new.folders d).faults
  pub spare : AsksSpare plan (facts_of stripes ++ ahead.stripes) old.spare new.spare
  pub makes : BreaksFolders plan old.starts old.states fault earlier last old.folders new.folders
  pub broke : HasBroken plan fault first old.folders new.folders old.vault new.vault
  pub rose : RoseBeyond fault (facts_of stripes ++ ahead.stripes) (readings ++ ahead.readings) old.folders new.folders old.vault new.vault

-- The same within a window, which was read before: the failed readings that were told of its cells were counted then.
abbrev pub HasBrokenInto : FixPlan → RunFault → List Event → List FolderView → List FolderView → VaultView → VaultView
    → Type 0
HasBrokenInto plan (Folder disk) told olds news old new =
    (disk < length plan.table.columns) × FolderBroke (folder_at olds disk) (folder_at news disk)
HasBrokenInto plan Vault told olds news old new = VaultFailedBy told old new
HasBrokenInto plan Memory told olds news old new = ⊥

pub record BreaksInto {W R : Type 0} (view : W → SinkView) (standing : R → ReportView)
    (stands : R → List Event → Type 0) (plan : FixPlan) (numbers : List ℕ) (window : WindowValue)
    (old new : FixScene W R) (fault : RunFault) : Type 0 where
  pub earlier : List Mended
  pub last : Mended
  pub stripes : List Mended
  pub stripes_are : stripes ≡ earlier ++ last ∷ []
  pub ahead : FixWindow
  pub numbers_are : numbers ≡ numbers_of (facts_of stripes) ++ numbers_of ahead.stripes
  pub slots : (k : ℕ) → k < length (facts_of stripes ++ ahead.stripes)
      → (facts_at (facts_of stripes ++ ahead.stripes) k).slots ≡ slots_at window k
  pub are : All (AreFacts plan) (facts_of stripes ++ ahead.stripes)
  pub level : ℕ
  pub first : List Event
  pub tells : TellsInLast plan fault level earlier last first
  pub told : Told view standing stands plan.table.columns first old.lines new.lines old.reports new.reports
  pub folders : length new.folders ≡ length old.folders
  pub answered : All (AnswersFit plan old.folders) stripes
  pub readings : List (List LevelReading)
  pub read : AreAllLevelsOf plan.table.shape.block_size old.vault (facts_of stripes) readings
  pub read_ahead : AreAllLevelsOf plan.table.shape.block_size old.vault ahead.stripes ahead.readings
  pub ran : BreaksInLast plan fault level (facts_of earlier) last.facts ahead.stripes (readings ++ ahead.readings) old.vault new.vault
  pub unread : RoseBy (unread_in (readings ++ ahead.readings)) old.vault.faults new.vault.faults
  pub spare : AsksSpare plan (facts_of stripes ++ ahead.stripes) old.spare new.spare
  pub makes : BreaksFolders plan old.starts old.states fault earlier last old.folders new.folders
  pub quiet : (d : ℕ) → d < length plan.table.columns
      → FolderReads IsQuiet (folder_at old.folders d) (folder_at new.folders d)
  pub broke : HasBrokenInto plan fault first old.folders new.folders old.vault new.vault
  pub rose : RoseBeyond fault [] (readings ++ ahead.readings) old.folders new.folders old.vault new.vault

-- Stripes were read into the window, and then it broke off.
pub record BreaksWindow {W R : Type 0} (view : W → SinkView) (standing : R → ReportView)
    (stands : R → List Event → Type 0) (plan : FixPlan) (numbers : List ℕ) (before : WindowValue)
    (old new : FixScene W R) (fault : RunFault) : Type 0 where
  pub window : WindowValue
  pub mids : List FolderView
  pub read : ReadsWindow plan.table old.starts numbers before window old.folders mids
  pub breaks : BreaksInto view standing stands plan numbers window (with_folders old mids) new fault
