-- What the check of a run does, from the table that it begins with.
use Rattle.std.specs.Prelude.{◌≡◌, ◌↔◌, ℕ, List, [], ◌++◌, length, All, None, count_by}
use Rattle.folder_listing.specs.Kept.{ListedFile}
use Rattle.folder_listing.specs.Listings.{ListsAll}
use Rattle.disk_model.specs.Folder.{FolderView}
use Rattle.file_table.specs.Table.{TableValue}
use Rattle.snap_config.specs.declared.options.Command.{Command}
use Rattle.snap_config.specs.declared.options.Command.TheVariants as commands
use Rattle.array_setup.specs.declared.ways.Selection.{Selection}
use Rattle.snap_fix.specs.Audited.{FindsNothing}
use Rattle.snap_fix.specs.Beginning.{BeginsNot}
use Rattle.stripe_examiner.specs.Counts.{at_most}
use Rattle.snap_fix.specs.Course.{IsPlan, check_events}
use Rattle.stripe_examiner.specs.Facts.{StripeFacts, gift_of}
use Rattle.stripe_examiner.specs.Known.{AreFacts}
use Rattle.stripe_examiner.specs.Looking.{AreRead, LevelsAreRead, numbers_of}
use Rattle.repair_scope.specs.Plan.{FixPlan, names_of, stripes_of}
use Rattle.stripe_examiner.specs.Place.{starts_of}
use Rattle.repair_scope.specs.declared.scope.Mode.{Mode}
use Rattle.repair_scope.specs.declared.scope.Mode.TheVariants as modes
use Rattle.snap_report.specs.EndLines.{check_text}
use Rattle.snap_report.specs.EventLines.{lines_of}
use Rattle.snap_report.specs.Kind.{is_finding}
use Rattle.snap_report.specs.declared.answer.Answer.{Answer}
use Rattle.snap_report.specs.declared.answer.Answer.TheVariants as answers
use Rattle.snap_report.specs.declared.answer.RunFault.{RunFault}
use Rattle.snap_report.specs.declared.answer.RunFault.TheVariants as runs
use Rattle.snap_top.specs.Task.{Task, Left, Prints}
use Rattle.snap_top.specs.Did.{Did, reads_only}
use Rattle.snap_top.specs.Views.{World, view_of}

-- A check that ended: each folder was listed once, and the cells and levels of all stripes with something selected were read. It printed the lines
-- of what follows of that, and its last line. Nothing was written.
pub record CheckEnds (mode : Mode) (selection : Selection) (task : Task) (table : TableValue) (before after : World) (left : Left) (did : Did) : Type 0 where
  pub did_is : did ≡ reads_only
  pub lists : List (List ListedFile)
  pub listed : List FolderView
  pub as_many : length listed ≡ length before.folders
  pub lists_are : ListsAll before.folders listed lists
  pub plan : FixPlan
  pub plan_is : IsPlan mode selection (names_of task.setup) table lists plan
  pub stripes : List StripeFacts
  pub numbers : numbers_of stripes ≡ stripes_of plan
  pub are : All (AreFacts plan) stripes
  -- there is no spare that holds anything
  pub no_gifts : All (λ (facts : StripeFacts). (d : ℕ) → gift_of facts d ≡ None) stripes
  pub read : AreRead plan (starts_of table lists) stripes listed after.folders
  pub levels : LevelsAreRead plan stripes (view_of before.vault) (view_of after.vault)
  pub told_is : left.told ≡ check_events plan stripes
  pub named_is : left.named ≡ None
  pub counted_is : left.counted ≡ at_most (count_by is_finding (check_events plan stripes))
  -- what an audit without a finding has seen
  pub audited : mode ≡ modes.Audit → (left.counted ≡ 0) ↔ FindsNothing plan stripes
  pub prints : Prints (lines_of table.columns (check_events plan stripes) ++ check_text left.counted) left.counted before.out after.out left.answer

-- A check that did not begin: only the folders were asked for their listings.
pub record CheckRefuses (before after : World) (left : Left) (did : Did) : Type 0 where
  pub fault : RunFault
  pub why : BeginsNot before.folders after.folders fault
  pub left_is : left ≡ record { answer = answers.Broken fault; named = None; counted = 0; told = [] }
  pub did_is : did ≡ reads_only
  pub others : after ≡ record before { folders = after.folders }

-- by its answer
abbrev pub ChecksBy : Answer → Mode → Selection → Task → TableValue → World → World → Left → Did → Type 0
ChecksBy answers.Clean mode selection task table before after left did = CheckEnds mode selection task table before after left did
ChecksBy answers.Found mode selection task table before after left did = CheckEnds mode selection task table before after left did
ChecksBy answers.OutputFailed mode selection task table before after left did = CheckEnds mode selection task table before after left did
ChecksBy (answers.Broken (runs.Folder disk)) mode selection task table before after left did = CheckRefuses before after left did
ChecksBy (answers.Broken runs.Memory) mode selection task table before after left did = CheckRefuses before after left did
ChecksBy _ mode selection task table before after left did = ⊥

-- the command of a check in this mode
abbrev pub checks_as : Mode → Selection → Command → Type 0
checks_as modes.Check selection command = command ≡ commands.Check selection
checks_as modes.Audit selection command = command ≡ commands.Audit selection
checks_as modes.Fix selection command = ⊥
