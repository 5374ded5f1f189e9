-- A check or a fix, by the mode: each mode has the record of its own.
use Rattle.std.specs.Prelude.{◌≡◌, ℕ, ◌<◌, List, length}
use Rattle.disk_model.specs.Files.{Stays}
use Rattle.disk_model.specs.Folder.{FolderView, TreeStays}
use Rattle.disk_model.specs.Sink.{SinkView}
use Rattle.disk_model.specs.Vault.{VaultView, ChangesBy, DraftsStay}
use Rattle.file_table.specs.Table.{TableValue}
use Rattle.array_setup.specs.declared.ways.Selection.{Selection}
use Rattle.snap_report.specs.Report.{ReportView}
use Rattle.snap_report.specs.declared.answer.RunFault.{RunFault}
use Rattle.snap_report.specs.declared.answer.RunFault.TheVariants.{Vault}
use Rattle.snap_report.specs.declared.events.Event.{Event}
use Rattle.stripe_reader.specs.Columns.{folder_at}
use Rattle.snap_fix.specs.declared.checks.FixEnd.{FixEnd}
use Rattle.repair_scope.specs.declared.scope.Mode.{Mode}
use Rattle.repair_scope.specs.declared.scope.Mode.TheVariants.{Check, Audit, Fix}
use Rattle.snap_fix.specs.Beginning.{BeginsNot}
use Rattle.snap_fix.specs.Course.{Checks, Outside}
use Rattle.snap_fix.specs.FixBreaking.{FixesNot}
use Rattle.snap_fix.specs.FixCourse.{AreOpen, Fixes}

-- a fix alone needs the folders open whose columns have records
abbrev pub AreOpenFor : Mode → TableValue → List FolderView → Type 0
AreOpenFor Check table folders = Unit {0}
AreOpenFor Audit table folders = Unit {0}
AreOpenFor Fix table folders = AreOpen table folders

-- it ended: it checked, or it fixed
abbrev pub Repairs : {W R : Type 0} → (W → SinkView) → (R → ReportView) → (R → List Event → Type 0) → Mode → Selection → List (List ℕ) → TableValue
    → Outside W R → Outside W R → FixEnd → Type 0
Repairs view standing stands Check selection names table old new end = Checks view standing stands Check selection names table old new end
Repairs view standing stands Audit selection names table old new end = Checks view standing stands Audit selection names table old new end
Repairs view standing stands Fix selection names table old new end = Fixes view standing stands Fix selection names table old new end

-- It did not end: a check did not begin, and a fix did not, or broke off. What did not begin touched nothing but the folders, which it lists.
abbrev pub RepairsNot : {W R : Type 0} → (W → SinkView) → (R → ReportView) → (R → List Event → Type 0) → Mode → Selection → List (List ℕ) → TableValue
    → Outside W R → Outside W R → Type 0 → RunFault → Type 0
RepairsNot view standing stands Check selection names table old new untouched fault = BeginsNot old.folders new.folders fault × untouched
RepairsNot view standing stands Audit selection names table old new untouched fault = BeginsNot old.folders new.folders fault × untouched
RepairsNot view standing stands Fix selection names table old new untouched fault =
    FixesNot view standing stands Fix selection names table old new untouched fault

-- no file of a folder changed, and nothing of the vault: neither what reads give nor what a stop leaves
pub record LeavesAll (folders folders_new : List FolderView) (vault vault_new : VaultView) : Type 0 where
  pub as_many : length folders_new ≡ length folders
  pub trees : (d : ℕ) → d < length folders → TreeStays (folder_at folders d) (folder_at folders_new d)
  pub files : ChangesBy Stays vault vault_new
  pub drafts : DraftsStay vault vault_new

-- a check leaves all, whatever it returns
abbrev pub LeavesFor : Mode → List FolderView → List FolderView → VaultView → VaultView → Type 0
LeavesFor Check folders folders_new vault vault_new = LeavesAll folders folders_new vault vault_new
LeavesFor Audit folders folders_new vault vault_new = LeavesAll folders folders_new vault vault_new
LeavesFor Fix folders folders_new vault vault_new = Unit {0}

-- a fix alone fails by the vault
abbrev pub MayFailBy : Mode → RunFault → Type 0
MayFailBy mode fault = fault ≡ Vault → mode ≡ Fix
