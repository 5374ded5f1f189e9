-- What a fix did to the files: all blocks were written, and then files were finished.
use Rattle.std.proofs.Common.{◌≡◌, ℕ, ◌<◌, List, [], length, IsTrue, sym, subst}
use Rattle.disk_model.specs.Folder.{FolderView}
use Rattle.stripe_reader.specs.Columns.{folder_at}
use Rattle.stripe_reader.specs.Starts.{StartsValue, starts_at}
use Rattle.file_restorer.specs.declared.finishing.Finish.{Finish}
use Rattle.snap_fix.specs.Ending.{FinishesColumn, column_calls, finishes_at, states_at}
use Rattle.snap_fix.specs.FixCourse.{FixesFiles, Written, WritesFiles}
use Rattle.snap_fix.specs.Fixing.{facts_of}
use Rattle.snap_fix.specs.FolderWindows.{WriteInWindows}
use Rattle.snap_fix.specs.Mended.{Mended}
use Rattle.repair_scope.specs.Plan.{FixPlan}
use Rattle.snap_fix.specs.Reads.{AreReadBy, FolderReads}
use Rattle.snap_fix.specs.StripeOrder.{writes_after}
use Rattle.snap_fix.proofs.FixCallLemmas.{fix_calls_of_all}
use Rattle.snap_fix.proofs.FolderWindowsLemmas.{goes_in_windows}
use Rattle.snap_fix.proofs.FinishPartsLemmas.{finish_quiet}
use Rattle.file_restorer.proofs.OrderLemmas.{writes_then}
use Rattle.snap_fix.proofs.ReadsLemmas.{reads_on}

-- All blocks were written, and then the files were finished.
pub fixes_files : (plan : FixPlan) (starts : StartsValue) (stripes : List Mended) (firsts news : List FolderView) (written : Written) (finishes : List (List Finish))
    → WritesFiles plan starts stripes firsts written → length news ≡ length firsts
    → ((d : ℕ) → d < length plan.table.columns → FinishesColumn plan written.starts written.states d finishes (folder_at written.folders d) (folder_at news d))
    → ((d : ℕ) → d < length plan.table.columns → FolderReads (AreReadBy plan starts written.starts d (facts_of stripes)) (folder_at firsts d) (folder_at written.folders d))
    → WriteInWindows plan starts written.starts stripes firsts written.folders
    → FixesFiles plan starts stripes finishes firsts news
fixes_files plan starts stripes firsts news written finishes writes folders finished reads in_windows = record {
  written = written;
  writes = writes;
  folders = folders;
  calls = fix_calls_of_all plan starts stripes firsts news written writes finishes finished;
  finished = finished;
  reads = λ d below. reads_on (AreReadBy plan starts written.starts d (facts_of stripes)) (reads d below)
      (finish_quiet plan d (starts_at written.starts.columns d) (states_at written.states d) (finishes_at finishes d) (finished d below).makes);
  in_windows = record {
    windows = in_windows.windows;
    readings = in_windows.readings;
    windows_are = in_windows.windows_are;
    each = λ d below.
        goes_in_windows plan starts written.starts written.states d in_windows.windows stripes (finishes_at finishes d) (in_windows.each d below) (finished d below).makes;
  };
  ordered = λ d below told.
      let column = writes.underway.each d below in
      writes_then (writes_after plan d (folder_at firsts d).tree [] stripes) (column_calls plan d (starts_at written.starts.columns d) (states_at written.states d))
      (column.ordered told) ((finished d below).wrote (subst IsTrue (sym column.calls.goes_on.tells) told));
}
