-- How a fix breaks off: while blocks are written, or, once all are, while levels are synced or files finished.
use Rattle.std.specs.Prelude.{◌≡◌, ◌⊎◌, ℕ, ◌<◌, List, [], ◌∷◌, ◌++◌, length}
use Rattle.std.specs.List.{range_with_len, flat_map}
use Rattle.folder_listing.specs.Kept.{ListedFile}
use Rattle.folder_listing.specs.Listings.{ListsAll}
use Rattle.disk_model.specs.Cause.{RoseBy}
use Rattle.disk_model.specs.Folder.{FolderView}
use Rattle.disk_model.specs.Sink.{SinkView}
use Rattle.disk_model.specs.Vault.{VaultView}
use Rattle.file_table.specs.Table.{TableValue}
use Rattle.parity_writer.specs.LevelReading.{LevelReading}
use Rattle.array_setup.specs.declared.ways.Selection.{Selection}
use Rattle.snap_report.specs.Report.{ReportView}
use Rattle.snap_report.specs.Told.{Told}
use Rattle.snap_report.specs.declared.answer.RunFault.{RunFault}
use Rattle.snap_report.specs.declared.answer.RunFault.TheVariants.{Folder, Vault, Memory}
use Rattle.snap_report.specs.declared.events.Event.{Event}
use Rattle.stripe_reader.specs.Columns.{folder_at}
use Rattle.stripe_reader.specs.Starts.{StartsValue}
use Rattle.file_restorer.specs.declared.finishing.Finish.{Finish}
use Rattle.repair_scope.specs.declared.scope.Mode.{Mode}
use Rattle.stripe_examiner.specs.Asking.{AsksSpare}
use Rattle.snap_fix.specs.Beginning.{BeginsNot}
use Rattle.file_restorer.specs.Breaking.{FailsAfter}
use Rattle.snap_fix.specs.BrokenStripe.{broken_events}
use Rattle.snap_fix.specs.Course.{IsPlan, Outside}
use Rattle.snap_fix.specs.Ending.{AreDone, FailsInFinish, FailsInRecord, all_finish_news, column_news_at}
use Rattle.stripe_examiner.specs.Findings.{opening_events}
use Rattle.snap_fix.specs.FixCourse.{FixFinds, FixesVault, MakeFixCalls, WritesFiles, Written, mend_syncs}
use Rattle.snap_fix.specs.FixRun.{BreaksInLast, HasBroken, HoldAllWrong, LooksAhead, RoseBeyond}
use Rattle.snap_fix.specs.FolderWindows.{WriteInWindows}
use Rattle.snap_fix.specs.Fixing.{MendsVault, facts_of}
use Rattle.stripe_examiner.specs.Looking.{numbers_of, unread_cells, unread_in}
use Rattle.snap_fix.specs.Mended.{Mended, all_mended_events}
use Rattle.repair_scope.specs.Plan.{FixPlan, stripes_of}
use Rattle.stripe_examiner.specs.Place.{starts_of}
use Rattle.stripe_examiner.specs.Present.{ArePresent}
use Rattle.snap_fix.specs.Reads.{AreAllRead, FolderReads}
use Rattle.snap_fix.specs.Repairing.{FailsInCell}
use Rattle.file_restorer.specs.State.{FolderMakesBy, KeepsStarts}
use Rattle.snap_fix.specs.Underway.{AreMendCalls, done_well}
use Rattle.snap_fix.specs.Windows.{AreWindows, FixWindow, mend_calls}

-- what is told before files are finished
abbrev pub written_events : FixPlan → List Mended → List Event
written_events plan stripes = opening_events plan ++ all_mended_events plan stripes

-- Behind the stripes before it the last one was written, too: only calls for its blocks were made, by where files stood
-- before it, and none that writes failed. So all blocks of all these stripes were written.
pub record WritesLast (plan : FixPlan) (starts : StartsValue) (earlier : List Mended) (last : Mended)
    (firsts : List FolderView) (before : Written) (news : List FolderView) : Type 0 where
  pub makes : (d : ℕ) → d < length plan.table.columns
      → FolderMakesBy (AreMendCalls plan before.starts d last) (folder_at before.folders d) (folder_at news d)
  pub written : Written
  pub stood : KeepsStarts before.starts written.starts
  pub writes : WritesFiles plan starts (earlier ++ last ∷ []) firsts written
  pub folders : written.folders ≡ news

-- by what failed
abbrev pub BreaksLast : RunFault → FixPlan → StartsValue → List Mended → Mended → List FolderView → Written
    → List FolderView → Type 0
BreaksLast (Folder disk) plan starts earlier last firsts before news =
    FailsInCell disk plan before.starts last before.folders news
BreaksLast Vault plan starts earlier last firsts before news = WritesLast plan starts earlier last firsts before news
BreaksLast Memory plan starts earlier last firsts before news = ⊥

-- Of the folders: all blocks of the stripes before the last one were written, and then calls for that one were made, by
-- where files stood then: where a folder failed, up to the call of it that did, and where a call of the vault did, all
-- blocks of that one were written, too.
pub record BreaksFiles (plan : FixPlan) (starts : StartsValue) (fault : RunFault) (earlier : List Mended)
    (last : Mended) (firsts news : List FolderView) : Type 0 where
  pub written : Written
  pub writes : WritesFiles plan starts earlier firsts written
  pub breaks : BreaksLast fault plan starts earlier last firsts written news

-- While blocks were written, in the last of its stripes: all events of the stripes before it were told, and of its own
-- all that was found in it, and what was written of it before a call failed. Of the folders only calls that write their
-- blocks were made, which went well but for the last one of a folder that failed, in the last stripe. All blocks of the
-- stripes before it were written, and where the vault failed, all of the last one. Of the vault all calls for the windows
-- before that of the last stripe were made, and for its window, the stripes behind it among them, all up to the writes of
-- the last stripe; where the vault failed, then those below this level, and that of it, which failed.
pub record BreaksWriting (plan : FixPlan) (starts : StartsValue) (fault : RunFault) (stripes : List Mended)
    (readings : List (List LevelReading)) (ahead : FixWindow) (first : List Event) (firsts news : List FolderView)
    (old new : VaultView) : Type 0 where
  pub earlier : List Mended
  pub last : Mended
  pub stripes_are : stripes ≡ earlier ++ last ∷ []
  pub level : ℕ
  pub first_is : first ≡ written_events plan earlier ++ broken_events fault plan last level
  pub makes : BreaksFiles plan starts fault earlier last firsts news
  pub ran : BreaksInLast plan fault level (facts_of earlier) last.facts ahead.stripes (readings ++ ahead.readings) old new

-- While levels were synced: all calls for its stripes were made of the vault, then the first syncs and one that
-- failed. All that was written was told, wrong levels hold their sums, and the folders are as they were once all
-- blocks were written.
pub record BreaksSyncing (plan : FixPlan) (stripes : List Mended) (readings : List (List LevelReading))
    (first : List Event) (written : Written) (news : List FolderView) (old new : VaultView) : Type 0 where
  pub events : first ≡ written_events plan stripes
  pub windows : List FixWindow
  pub windows_are : AreWindows plan windows (facts_of stripes) readings
  pub ran : FailsAfter (mend_calls plan windows) (done_well (mend_syncs plan stripes)) old new
  pub holds : HoldAllWrong plan (facts_of stripes) new
  pub folders : news ≡ written.folders

-- While files were finished: the vault is as a fix leaves it that ends, so each level that was written was synced
-- before. All that was written was told, and then what was done to the files of the columns before the one that failed,
-- and to those before the record where it failed: a prefix of what is told of the files. Column after column only
-- calls that finish files were made, which went well but for the last one of the folder that failed; those behind it
-- are as they were once all blocks were written.
pub record BreaksFinishing (disk : ℕ) (plan : FixPlan) (stripes : List Mended) (readings : List (List LevelReading))
    (first : List Event) (written : Written) (news : List FolderView) (old new : VaultView) : Type 0 where
  pub finishes : List (List Finish)
  pub are : AreDone plan written.starts written.states written.folders finishes
  pub finished : List Event
  pub last : List Event
  pub part : FailsInRecord disk plan written.starts written.states finishes last written.folders news
  pub finished_is : finished ≡ flat_map (column_news_at plan finishes) (range_with_len 0 disk) ++ last
  pub rest : List Event
  pub events : first ≡ written_events plan stripes ++ finished
  pub finished_are : all_finish_news plan finishes ≡ finished ++ rest
  pub makes : FailsInFinish disk plan written.starts written.states finishes written.folders news
  pub vault : FixesVault plan stripes readings old new

-- by what failed
abbrev pub BreaksEnding : RunFault → FixPlan → List Mended → List (List LevelReading) → List Event → Written
    → List FolderView → VaultView → VaultView → Type 0
BreaksEnding (Folder disk) plan stripes readings first written news old new =
    BreaksFinishing disk plan stripes readings first written news old new
BreaksEnding Vault plan stripes readings first written news old new =
    BreaksSyncing plan stripes readings first written news old new
BreaksEnding Memory plan stripes readings first written news old new = ⊥

-- At the end: all blocks were written, window by window. A sync failed before any file was finished, or a folder once all
-- levels were synced.
pub record BreaksAtEnd (plan : FixPlan) (starts : StartsValue) (fault : RunFault) (stripes : List Mended)
    (readings : List (List LevelReading)) (first : List Event) (firsts news : List FolderView) (old new : VaultView)
    : Type 0 where
  pub written : Written
  pub writes : WritesFiles plan starts stripes firsts written
  pub in_windows : WriteInWindows plan starts written.starts stripes firsts written.folders
  pub ending : BreaksEnding fault plan stripes readings first written news old new

-- Where a fix broke off, with so many stripes behind those that it looked at, and so many of these read ahead: at the end
-- there are none.
abbrev pub BreaksOff : FixPlan → StartsValue → RunFault → List Mended → List ℕ → List (List LevelReading) → FixWindow
    → List Event → List FolderView → List FolderView → VaultView → VaultView → Type 0
BreaksOff plan starts fault stripes behind readings ahead first firsts news old new =
    BreaksWriting plan starts fault stripes readings ahead first firsts news old new
    ⊎ ((behind ≡ []) × BreaksAtEnd plan starts fault stripes readings first firsts news old new)

-- A fix that broke off after the folders were listed: an object failed otherwise than in the readings that were told.
-- These first stripes were looked at, and it broke off in the last of them or at the end.
pub record FixBreaks {W R : Type 0} (view : W → SinkView) (standing : R → ReportView) (stands : R → List Event → Type 0)
    (mode : Mode) (selection : Selection) (names : List (List ℕ)) (table : TableValue) (old new : Outside W R)
    (fault : RunFault) : Type 0 where
  pub lists : List (List ListedFile)
  pub mids : List FolderView
  pub as_many : length mids ≡ length old.folders
  pub listed : ListsAll old.folders mids lists
  pub plan : FixPlan
  pub plan_is : IsPlan mode selection names table lists plan
  pub stripes : List Mended
  pub behind : List ℕ
  pub numbers : stripes_of plan ≡ numbers_of (facts_of stripes) ++ behind
  pub readings : List (List LevelReading)
  pub finds : FixFinds plan (starts_of table lists) mids old.vault stripes readings
  pub ahead : FixWindow
  pub looked : LooksAhead plan (length stripes) ahead behind old.vault
  pub cells_ahead : ArePresent plan (starts_of table lists) mids ahead.stripes
  pub unread : RoseBy (unread_in (readings ++ ahead.readings)) old.vault.faults new.vault.faults
  pub unread_cells_of : (d : ℕ) → d < length plan.table.columns
      → RoseBy (unread_cells d (facts_of stripes ++ ahead.stripes)) (folder_at old.folders d).faults (folder_at new.folders d).faults
  pub spare : AsksSpare plan (facts_of stripes ++ ahead.stripes) old.spare new.spare
  pub vault : MendsVault plan (facts_of stripes) old.vault new.vault
  pub first : List Event
  pub off : BreaksOff plan (starts_of table lists) fault stripes behind readings ahead first mids new.folders
      old.vault new.vault
  pub told : Told view standing stands table.columns first old.lines new.lines old.reports new.reports
  pub folders : length new.folders ≡ length old.folders
  pub calls : MakeFixCalls plan (starts_of table lists) stripes mids new.folders
  pub reads : (d : ℕ) → d < length plan.table.columns
      → FolderReads (AreAllRead plan (starts_of table lists) d (facts_of stripes ++ ahead.stripes))
      (folder_at mids d) (folder_at new.folders d)
  pub broke : HasBroken plan fault first mids new.folders old.vault new.vault
  pub rose : RoseBeyond fault (facts_of stripes ++ ahead.stripes) (readings ++ ahead.readings) mids new.folders old.vault new.vault

-- why a fix did not end: it did not begin, and nothing but the folders was touched, or it broke off
abbrev pub FixesNot : {W R : Type 0} → (W → SinkView) → (R → ReportView) → (R → List Event → Type 0) → Mode → Selection
    → List (List ℕ) → TableValue → Outside W R → Outside W R → Type 0 → RunFault → Type 0
FixesNot view standing stands mode selection names table old new untouched fault =
    (BeginsNot old.folders new.folders fault × untouched)
    ⊎ FixBreaks view standing stands mode selection names table old new fault
