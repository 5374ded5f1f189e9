-- What a stop within the fix of a run leaves of the files of its folders, and what the next fix finds.
use Rattle.std.specs.Prelude.{◌≡◌, ◌⊎◌, ℕ, ◌<◌, List, length, Bool, true, false, IsTrue, Some}
use Rattle.disk_model.specs.Folder.{FolderView}
use Rattle.disk_model.specs.Opener.{folder_held}
use Rattle.disk_model.specs.Stopped.{MayBeLeft}
use Rattle.disk_model.specs.Tree.{File, IsTree, Tree, file_of, path_of}
use Rattle.snap_fix.specs.Ending.{is_finished}
use Rattle.stripe_examiner.specs.Facts.{is_missing}
use Rattle.snap_fix.specs.Mended.{Mended}
use Rattle.stripe_examiner.specs.Place.{starts_of}
use Rattle.snap_fix.specs.Stopped.{FixStop, IsNoneOf, StandsSpared, file_placed, path_at, records_of}
use Rattle.snap_top.specs.Fix.{FixRun}
use Rattle.snap_top.specs.Entry.{Entry, Exit}
use Rattle.snap_top.specs.Undamaged.{was_read}
use Rattle.snap_top.specs.Views.{calls_since, folder_at}

-- ---- the files at a moment of a run

-- The files of a folder as they read at the end of a run, or as a stop may leave them within the calls of it that the run made. What a stop
-- after the first of these calls may leave is among that (`disk_model::laws::a_folder_stands_among_what_a_stop_may_leave`, clause `later`).
abbrev pub MayStandLeft : FolderView → FolderView → Tree → Type 0
MayStandLeft old new left =
    (left ≡ new.tree) ⊎ (IsTrue new.tells_calls × MayBeLeft old.keeps (calls_since old new) old.tree left)

-- so it is of a folder that tells its files, which are a tree
pub record FolderStandsIn (before : Entry) (exit : Exit) (d : ℕ) (left : Tree) : Type 0 where
  pub within : d < length before.opener.folders
  pub tells : IsTrue (folder_held before.opener d).tells
  pub is_tree : IsTree (folder_held before.opener d).tree
  pub stands : MayStandLeft (folder_held before.opener d) (folder_at exit.after.folders d) left

-- ---- what a fix leaves of them

-- a stop within the calls that a fix made of the folder of a column, which held files at first and left these
abbrev pub stop_of : FixRun → ℕ → Tree → Tree → FixStop
stop_of run d first left = record {
  plan = run.plan;
  starts = starts_of run.loaded run.lists;
  stripes = run.stripes;
  d = d;
  keeps = (folder_at run.folders d).keeps;
  first = first;
  left = left;
}

-- The file that stood in the place of a record stands under one of its names with all bytes that it had, but in blocks that the fix writes, and
-- behind the recorded end where no block is lost. The files of records that are blocked or not selected stay, and so do all that are no record's.
pub record SparesFiles (stop : FixStop) : Type 0 where
  pub bytes : (i : ℕ) (file : File) → i < length (records_of stop) → file_placed stop.first (path_at stop i) ≡ Some file → StandsSpared stop i file
  pub not_selected : (i : ℕ) (lost : Bool) → i < length (records_of stop) → is_finished stop.plan stop.d i ≡ false
      → file_of stop.left (path_of (path_at stop i) lost) ≡ file_of stop.first (path_of (path_at stop i) lost)
  pub others : (name : List ℕ) → IsNoneOf stop name → file_of stop.left name ≡ file_of stop.first name

-- ---- the next fix

-- Another fix looks at the same stripe again: each cell that is missing there was missing before, and each level that was read before is read again.
pub record FindsNoLess (run again : FixRun) (mended mended_again : Mended) : Type 0 where
  pub stripe : mended_again.facts.stripe ≡ mended.facts.stripe
  pub columns : length again.plan.table.columns ≡ length run.plan.table.columns
  pub missing : (d : ℕ) → is_missing again.plan mended_again.facts d ≡ true → is_missing run.plan mended.facts d ≡ true
  pub as_many : length mended_again.facts.levels ≡ length mended.facts.levels
  pub read : (r : ℕ) → was_read mended.facts.levels r ≡ true → was_read mended_again.facts.levels r ≡ true
