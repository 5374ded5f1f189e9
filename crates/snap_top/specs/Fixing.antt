-- What the fix of a run does, from the table that it begins with.
use Rattle.std.specs.Prelude.{◌≡◌, ◌⊎◌, ℕ, ◌<◌, List, ◌++◌, length, All, Bool, true, false, None, count_by, sum_by}
use Rattle.folder_listing.specs.Kept.{ListedFile}
use Rattle.folder_listing.specs.Listings.{ListsAll}
use Rattle.disk_model.specs.Cause.{RoseBy}
use Rattle.disk_model.specs.Folder.{FolderView}
use Rattle.file_table.specs.Table.{TableValue}
use Rattle.parity_writer.specs.LevelReading.{LevelReading}
use Rattle.array_setup.specs.declared.ways.Selection.{Selection}
use Rattle.stripe_examiner.specs.Counts.{at_most}
use Rattle.snap_fix.specs.Course.{IsPlan}
use Rattle.snap_fix.specs.Ending.{Finishes}
use Rattle.stripe_examiner.specs.Facts.{StripeFacts, gift_of}
use Rattle.snap_fix.specs.FixBreaking.{BreaksOff}
use Rattle.snap_fix.specs.FixCourse.{FixFinds, FixesFiles, FixesVault, MakeFixCalls, fix_events}
use Rattle.snap_fix.specs.FixRun.{HasBroken, LooksAhead, RoseBeyond}
use Rattle.snap_fix.specs.Fixing.{MendsVault, facts_of}
use Rattle.stripe_examiner.specs.Looking.{numbers_of, unread_cells, unread_in}
use Rattle.snap_fix.specs.Reads.{AreAllRead, FolderReads}
use Rattle.snap_fix.specs.Mended.{Mended, wrong_in, written_in}
use Rattle.snap_fix.specs.Windows.{FixWindow}
use Rattle.repair_scope.specs.Plan.{FixPlan, names_of, stripes_of}
use Rattle.stripe_examiner.specs.Place.{starts_of}
use Rattle.stripe_examiner.specs.Present.{ArePresent}
use Rattle.repair_scope.specs.declared.scope.Mode.TheVariants as modes
use Rattle.snap_report.specs.Answer.{is_io_of}
use Rattle.snap_report.specs.EndLines.{fix_text}
use Rattle.snap_report.specs.EventLines.{lines_of}
use Rattle.snap_report.specs.Kind.{is_left}
use Rattle.snap_report.specs.Telling.{Tells, between}
use Rattle.snap_report.specs.declared.answer.Answer.{Answer}
use Rattle.snap_report.specs.declared.answer.Answer.TheVariants as answers
use Rattle.snap_report.specs.declared.answer.RunFault.{RunFault}
use Rattle.snap_report.specs.declared.answer.RunFault.TheVariants as runs
use Rattle.stripe_reader.specs.Columns.{folder_at}
use Rattle.snap_top.specs.Checking.{CheckRefuses}
use Rattle.snap_top.specs.Fix.{FixRun}
use Rattle.snap_top.specs.Task.{Task, Left, Prints}
use Rattle.snap_top.specs.Did.{Did, fixes}
use Rattle.snap_top.specs.Views.{World, view_of}

-- the fix as a whole, by what was listed, looked at and read
abbrev pub fix_of : Selection → Task → TableValue → World → World → List (List ListedFile) → List FolderView → FixPlan → List Mended → List (List LevelReading) → FixRun
fix_of selection task table before after lists listed plan stripes readings = record {
  selection = selection;
  setup = task.setup;
  loaded = table;
  lists = lists;
  plan = plan;
  stripes = stripes;
  readings = readings;
  folders = before.folders;
  listed = listed;
  ended = after.folders;
}

-- The folders were listed; these stripes were looked at, and what is known of them is what stood there. No block came from elsewhere.
pub record FixCourse (selection : Selection) (task : Task) (table : TableValue) (failed : Bool) (before after : World) (did : Did) : Type 0 where
  pub lists : List (List ListedFile)
  pub listed : List FolderView
  pub as_many : length listed ≡ length before.folders
  pub lists_are : ListsAll before.folders listed lists
  pub plan : FixPlan
  pub plan_is : IsPlan modes.Fix selection (names_of task.setup) table lists plan
  pub stripes : List Mended
  pub readings : List (List LevelReading)
  pub did_is : did ≡ fixes failed (fix_of selection task table before after lists listed plan stripes readings)
  pub finds : FixFinds plan (starts_of table lists) listed (view_of before.vault) stripes readings
  pub no_gifts : All (λ (facts : StripeFacts). (d : ℕ) → gift_of facts d ≡ None) (facts_of stripes)
  pub unread : (d : ℕ) → d < length plan.table.columns
      → RoseBy (unread_cells d (facts_of stripes)) (folder_at before.folders d).faults (folder_at after.folders d).faults

-- A fix that ended: all stripes with something selected were looked at; what is damaged and known was written, the levels that were written
-- were synced, and the files of the selected records finished. It printed the lines of what follows of that, and its last line.
pub record FixEnds (selection : Selection) (task : Task) (table : TableValue) (before after : World) (left : Left) (did : Did) : Type 0 where
  pub course : FixCourse selection task table false before after did
  pub numbers : numbers_of (facts_of course.stripes) ≡ stripes_of course.plan
  pub vault : FixesVault course.plan course.stripes course.readings (view_of before.vault) (view_of after.vault)
  pub finishes : Finishes
  pub files : FixesFiles course.plan (starts_of table course.lists) course.stripes finishes course.listed after.folders
  pub io : (d : ℕ) → d < length course.plan.table.columns
      → RoseBy (count_by (is_io_of d) (fix_events course.plan course.stripes finishes)) (folder_at before.folders d).faults (folder_at after.folders d).faults
  pub told_is : left.told ≡ fix_events course.plan course.stripes finishes
  pub named_is : left.named ≡ None
  pub counted_is : left.counted ≡ at_most (count_by is_left (fix_events course.plan course.stripes finishes))
  pub blocks : ℕ
  pub blocks_are : blocks ≡ at_most (sum_by (written_in course.plan) course.stripes)
  pub parities : ℕ
  pub parities_are : parities ≡ at_most (sum_by (wrong_in course.plan) course.stripes)
  pub prints : Prints (lines_of table.columns (fix_events course.plan course.stripes finishes) ++ fix_text blocks parities left.counted) left.counted before.out after.out left.answer

-- A fix that broke off after the folders were listed: some first stripes were looked at, and it broke off in the last of them, or at the end.
-- Beside the last one the next ones of its window were read. A prefix was told and printed of what is where nothing fails.
pub record FixBroke (fault : RunFault) (selection : Selection) (task : Task) (table : TableValue) (before after : World) (left : Left) (did : Did) : Type 0 where
  pub course : FixCourse selection task table true before after did
  pub behind : List ℕ
  pub numbers : stripes_of course.plan ≡ numbers_of (facts_of course.stripes) ++ behind
  pub vault : MendsVault course.plan (facts_of course.stripes) (view_of before.vault) (view_of after.vault)
  pub ahead : FixWindow
  pub looked : LooksAhead course.plan (length course.stripes) ahead behind (view_of before.vault)
  pub cells_ahead : ArePresent course.plan (starts_of table course.lists) course.listed ahead.stripes
  pub unread_ahead : (d : ℕ) → d < length course.plan.table.columns
      → RoseBy (unread_cells d (facts_of course.stripes ++ ahead.stripes)) (folder_at before.folders d).faults (folder_at after.folders d).faults
  pub unread : RoseBy (unread_in (course.readings ++ ahead.readings)) before.vault.faults after.vault.faults
  pub off : BreaksOff course.plan (starts_of table course.lists) fault course.stripes behind course.readings ahead left.told course.listed after.folders
      (view_of before.vault) (view_of after.vault)
  pub calls : MakeFixCalls course.plan (starts_of table course.lists) course.stripes course.listed after.folders
  pub reads : (d : ℕ) → d < length course.plan.table.columns
      → FolderReads (AreAllRead course.plan (starts_of table course.lists) d (facts_of course.stripes ++ ahead.stripes))
      (folder_at course.listed d) (folder_at after.folders d)
  pub broke : HasBroken course.plan fault left.told course.listed after.folders (view_of before.vault) (view_of after.vault)
  pub rose : RoseBeyond fault (facts_of course.stripes ++ ahead.stripes) (course.readings ++ ahead.readings) course.listed after.folders
      (view_of before.vault) (view_of after.vault)
  pub answer_is : left.answer ≡ answers.Broken fault
  pub named_is : left.named ≡ None
  pub counted_is : left.counted ≡ 0
  pub output_failed : Bool
  pub printed : Tells (lines_of table.columns left.told) (between false before.out) (between output_failed after.out)

-- by its answer
abbrev pub FixesBy : Answer → Selection → Task → TableValue → World → World → Left → Did → Type 0
FixesBy answers.Clean selection task table before after left did = FixEnds selection task table before after left did
FixesBy answers.Found selection task table before after left did = FixEnds selection task table before after left did
FixesBy answers.OutputFailed selection task table before after left did = FixEnds selection task table before after left did
FixesBy (answers.Broken (runs.Folder disk)) selection task table before after left did =
    CheckRefuses before after left did ⊎ FixBroke (runs.Folder disk) selection task table before after left did
FixesBy (answers.Broken runs.Vault) selection task table before after left did = FixBroke runs.Vault selection task table before after left did
FixesBy (answers.Broken runs.Memory) selection task table before after left did = CheckRefuses before after left did
FixesBy _ selection task table before after left did = ⊥
