-- A fix that began: the folders were listed, and nothing was written.
use Rattle.std.specs.Prelude.{◌≡◌, ℕ, List, length, replicate, false}
use Rattle.disk_model.specs.Folder.{FolderView}
use Rattle.disk_model.specs.Sink.{SinkView}
use Rattle.disk_model.specs.Vault.{VaultView}
use Rattle.file_table.specs.Table.{TableValue}
use Rattle.file_table.specs.Valid.{IsValid}
use Rattle.array_setup.specs.declared.ways.Selection.{Selection}
use Rattle.snap_report.specs.Report.{ReportView}
use Rattle.snap_report.specs.declared.answer.RunFault.{RunFault}
use Rattle.snap_report.specs.declared.events.Event.{Event}
use Rattle.file_restorer.specs.State.{first_states}
use Rattle.stripe_examiner.specs.Spare.{IsSpareFor, SpareView}
use Rattle.repair_scope.specs.declared.scope.Mode.TheVariants.{Fix}
use Rattle.snap_fix.specs.declared.beginning.Work.{Work}
use Rattle.snap_fix.specs.declared.checks.FixEnd.{FixEnd}
use Rattle.snap_fix.specs.declared.plan.Progress.{Progress}
use Rattle.snap_fix.specs.declared.repairs.Begun.{Begun}
use Rattle.snap_fix.specs.Beginning.{Begins}
use Rattle.snap_fix.specs.Course.{Outside}
use Rattle.snap_fix.specs.FixBreaking.{FixBreaks}
use Rattle.snap_fix.specs.FixCourse.{AreOpen, Fixes}

-- no file and no level was written
pub record IsFirst (table : TableValue) (progress : Progress) : Type 0 where
  pub valid : IsValid table
  pub states : progress.states ≡ first_states progress.starts
  pub written : progress.written.items ≡ replicate table.shape.levels false

-- what it works with, as one that writes nothing does
abbrev pub work_of : Begun → Work
work_of begun = record {
  scope = begun.scope;
  entries = begun.entries;
  starts = begun.space.progress.starts;
  stripes = begun.stripes;
  room = begun.space.room;
}

-- The folders were listed, each once, and this is what the fix works with.
pub record BeginsFix (selection : Selection) (names : List (List ℕ)) (table : TableValue) (begun : Begun)
    (olds news : List FolderView) : Type 0 where
  pub begins : Begins Fix selection names table (work_of begun) olds news
  pub first : IsFirst table begun.space.progress

-- These were the open folders of an array before.
pub record BeganFrom (selection : Selection) (names : List (List ℕ)) (table : TableValue) (begun : Begun)
    (olds news : List FolderView) : Type 0 where
  pub begins : BeginsFix selection names table begun olds news
  pub folders_are : length olds ≡ length table.columns
  pub were_open : AreOpen table olds

-- A fix of an array began so, whatever is selected: by its folders then, and by a vault and a spare that go with its table.
pub record HasBegun (table : TableValue) (begun : Begun) (folders : List FolderView) (vault : VaultView) (spare : SpareView) : Type 0 where
  pub selection : Selection
  pub names : List (List ℕ)
  pub olds : List FolderView
  pub began : BeganFrom selection names table begun olds folders
  pub levels : vault.levels ≡ table.shape.levels
  pub spare_is : IsSpareFor table.shape spare

-- a run before its folders were listed
abbrev pub from_folders : {W R : Type 0} → List FolderView → Outside W R → Outside W R
from_folders olds old = record old { folders = olds }

-- From there on it goes on as a fix does, whichever folders and selection it began from.
abbrev pub FixesBegun : {W R : Type 0} → (W → SinkView) → (R → ReportView) → (R → List Event → Type 0) → TableValue → Begun
    → Outside W R → Outside W R → FixEnd → Type 0
FixesBegun view standing stands table begun old new end = (selection : Selection) (names : List (List ℕ)) (olds : List FolderView)
    → BeganFrom selection names table begun olds old.folders
    → Fixes view standing stands Fix selection names table (from_folders olds old) new end

-- or breaks off as one does
abbrev pub BreaksBegun : {W R : Type 0} → (W → SinkView) → (R → ReportView) → (R → List Event → Type 0) → TableValue → Begun
    → Outside W R → Outside W R → RunFault → Type 0
BreaksBegun view standing stands table begun old new fault = (selection : Selection) (names : List (List ℕ)) (olds : List FolderView)
    → BeganFrom selection names table begun olds old.folders
    → FixBreaks view standing stands Fix selection names table (from_folders olds old) new fault
