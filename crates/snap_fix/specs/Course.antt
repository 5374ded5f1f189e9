-- A check as a whole.
use Rattle.std.specs.Prelude.{◌≡◌, ◌↔◌, ℕ, List, ◌++◌, length, All, count_by}
use Rattle.folder_listing.specs.Kept.{ListedFile}
use Rattle.folder_listing.specs.Listings.{ListsAll}
use Rattle.disk_model.specs.Folder.{FolderView}
use Rattle.disk_model.specs.Sink.{SinkView}
use Rattle.disk_model.specs.Vault.{VaultView}
use Rattle.file_table.specs.Table.{TableValue}
use Rattle.array_setup.specs.declared.ways.Selection.{Selection}
use Rattle.snap_report.specs.EndLines.{check_text}
use Rattle.snap_report.specs.EventLines.{lines_of}
use Rattle.snap_report.specs.Kind.{is_finding, is_left}
use Rattle.snap_report.specs.Report.{ReportView, AllGiven}
use Rattle.snap_report.specs.State.{Puts, state_of}
use Rattle.snap_report.specs.Telling.{Settled}
use Rattle.snap_report.specs.declared.events.Event.{Event}
use Rattle.snap_report.specs.declared.pages.Lines.{Lines}
use Rattle.snap_fix.specs.declared.checks.FixEnd.{FixEnd}
use Rattle.repair_scope.specs.declared.scope.Mode.{Mode}
use Rattle.repair_scope.specs.declared.scope.Mode.TheVariants.{Audit}
use Rattle.snap_fix.specs.Audited.{FindsNothing}
use Rattle.stripe_examiner.specs.Asking.{AsksSpare}
use Rattle.stripe_examiner.specs.Counts.{at_most}
use Rattle.stripe_examiner.specs.Facts.{StripeFacts}
use Rattle.stripe_examiner.specs.Findings.{opening_events, events_of}
use Rattle.stripe_examiner.specs.Known.{AreFacts}
use Rattle.stripe_examiner.specs.Looking.{AreRead, LevelsAreRead, numbers_of}
use Rattle.repair_scope.specs.Plan.{FixPlan, IsScope, entries_of, stripes_of}
use Rattle.stripe_examiner.specs.Place.{starts_of}
use Rattle.stripe_examiner.specs.Spare.{SpareView, IsSpareFor}

-- what a check or a fix works on: the folders, the vault, the spare, the lines, and those who are told
pub record Outside (W R : Type 0) : Type 1 where
  pub folders : List FolderView
  pub vault : VaultView
  pub spare : SpareView
  pub lines : Lines W
  pub reports : List R

abbrev pub outside : {W R : Type 0} → List FolderView → VaultView → SpareView → Lines W → List R → Outside W R
outside folders vault spare lines reports = record { folders = folders; vault = vault; spare = spare; lines = lines; reports = reports }

-- an array: a table, and folders, disks, a vault and a spare that go with it
pub record IsArray (table : TableValue) (disks : ℕ) (folders : List FolderView) (vault : VaultView) (spare : SpareView) : Type 0 where
  pub folders_are : length folders ≡ length table.columns
  pub disks_are : disks ≡ length table.columns
  pub levels : vault.levels ≡ table.shape.levels
  pub spare_is : IsSpareFor table.shape spare

-- the plan of a run for this selection, by what the folders of these disks list
pub record IsPlan (mode : Mode) (selection : Selection) (names : List (List ℕ)) (table : TableValue)
    (lists : List (List ListedFile)) (plan : FixPlan) : Type 0 where
  pub scope : IsScope mode selection plan.scope
  pub table_is : plan.table ≡ table
  pub entries : plan.entries ≡ entries_of selection names table lists

-- all events of a check
abbrev pub check_events : FixPlan → List StripeFacts → List Event
check_events plan stripes = opening_events plan ++ events_of plan stripes

-- A check: each folder was listed once, and then the cells and levels of all stripes with something selected were read. Just what
-- follows of that was told, and the last line counts it. Nothing was written.
pub record Checks {W R : Type 0} (view : W → SinkView) (standing : R → ReportView) (stands : R → List Event → Type 0)
    (mode : Mode) (selection : Selection) (names : List (List ℕ)) (table : TableValue) (old new : Outside W R) (end : FixEnd) : Type 0 where
  pub lists : List (List ListedFile)
  pub mids : List FolderView
  pub as_many : length mids ≡ length old.folders
  pub listed : ListsAll old.folders mids lists
  pub plan : FixPlan
  pub plan_is : IsPlan mode selection names table lists plan
  pub stripes : List StripeFacts
  pub numbers : numbers_of stripes ≡ stripes_of plan
  pub are : All (AreFacts plan) stripes
  pub read : AreRead plan (starts_of table lists) stripes mids new.folders
  pub levels : LevelsAreRead plan stripes old.vault new.vault
  pub spare : AsksSpare plan stripes old.spare new.spare
  pub given : AllGiven standing stands (lines_of table.columns (check_events plan stripes)) (check_events plan stripes) old.reports new.reports
  pub puts : Puts view (lines_of table.columns (check_events plan stripes) ++ check_text end.findings) old.lines new.lines
  pub settled : Settled (state_of view new.lines)
  pub findings : end.findings ≡ at_most (count_by is_finding (check_events plan stripes))
  pub left : end.left ≡ at_most (count_by is_left (check_events plan stripes))
  pub no_blocks : end.blocks ≡ 0
  pub no_parities : end.parities ≡ 0
  -- what an audit without a finding has seen
  pub audited : mode ≡ Audit → (end.findings ≡ 0 ↔ FindsNothing plan stripes)
