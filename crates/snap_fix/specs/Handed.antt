-- What is handed on as one value, as a stripe that was examined: what is asked of it, and said of it.
use Rattle.std.specs.Prelude.{◌≡◌, ℕ, List, map, Bool, true}
use Rattle.disk_model.specs.Folder.{FolderView}
use Rattle.disk_model.specs.Sink.{SinkView}
use Rattle.disk_model.specs.Vault.{VaultView}
use Rattle.snap_report.specs.Report.{ReportView}
use Rattle.snap_report.specs.declared.answer.RunFault.{RunFault}
use Rattle.snap_report.specs.declared.events.Event.{Event}
use Rattle.snap_report.specs.declared.pages.Lines.{Lines}
use Rattle.stripe_reader.specs.Starts.{StartsValue}
use Rattle.file_restorer.specs.declared.state.FileState.{FileState}
use Rattle.stripe_examiner.specs.Facts.{StripeFacts}
use Rattle.stripe_examiner.specs.Judging.{TellsWrong}
use Rattle.stripe_examiner.specs.Marks.{CanExamine, row_if}
use Rattle.repair_scope.specs.Plan.{FixPlan, is_searched, seen}
use Rattle.stripe_examiner.specs.Spare.{IsSpareFor, SpareView, nothing}
use Rattle.stripe_examiner.specs.WindowExamined.{CanExamineWindow}
use Rattle.snap_fix.specs.declared.fixing.Totals.{Totals}
use Rattle.snap_fix.specs.declared.plan.Examined.{Examined}
use Rattle.snap_fix.specs.declared.plan.Progress.{Progress}
use Rattle.snap_fix.specs.declared.plan.Shown.{Shown}
use Rattle.snap_fix.specs.declared.plan.Stretch.{Stretch}
use Rattle.snap_fix.specs.declared.plan.Workspace.{Workspace}
use Rattle.snap_fix.specs.declared.repairing.Repaired.{Repaired}
use Rattle.snap_fix.specs.FixSteps.{MendsNotParity, MendsParity, ShowsTried}
use Rattle.snap_fix.specs.Fixing.{BreaksStripe, FixScene, FixesStripe, fix_scene}
use Rattle.snap_fix.specs.RepairSteps.{CanMendColumn, ColumnOutside, MendsColumn, MendsNotColumn}
use Rattle.snap_fix.specs.Repairing.{CanMend, CanMendLevels, FilesOutside, FlagsWritten, LevelsOutside, MendsFiles, MendsLevels, MendsNotFiles, MendsNotLevels, ShowsLevels}
use Rattle.snap_fix.specs.FixRun.{BreaksWindow, FixesWindow, MendsInto, MendsNotInto}
use Rattle.snap_fix.specs.Underway.{FixUnderway}
use Rattle.snap_fix.specs.WindowShown.{ShowsAll, ShowsFactsOf}

-- ---- a stripe that was examined

abbrev pub CanExamineOne : FixPlan → Examined → Type 0
CanExamineOne plan one = CanExamine plan one.stripe one.slot one.window.now

-- these are its facts
abbrev pub ShowsOne : FixPlan → StripeFacts → Examined → Type 0
ShowsOne plan facts one = ShowsFactsOf plan facts one.stripe one.slot one.window.now one.own.now

-- ---- the cell of a column of it

abbrev pub CanMendIn : FixPlan → Examined → ℕ → StartsValue → List (List FileState) → FolderView → Type 0
CanMendIn plan one d starts states folder =
    CanMendColumn plan one.stripe one.slot d one.window.now one.own.now.marks.items one.own.now.known starts states folder

abbrev pub MendsIn : {W R : Type 0} → (W → SinkView) → (R → ReportView) → (R → List Event → Type 0) → FixPlan → Examined → ℕ
    → ColumnOutside W R → ColumnOutside W R → Repaired → Type 0
MendsIn view standing stands plan one d old new repaired =
    MendsColumn view standing stands plan one.stripe one.slot d one.window.now one.own.now.marks.items one.own.now.known old new repaired

abbrev pub MendsNotIn : {W R : Type 0} → (W → SinkView) → (R → ReportView) → (R → List Event → Type 0) → FixPlan → Examined → ℕ
    → ColumnOutside W R → ColumnOutside W R → Type 0
MendsNotIn view standing stands plan one d old new =
    MendsNotColumn view standing stands plan one.stripe one.slot d one.window.now one.own.now.marks.items one.own.now.known old new

-- ---- all its cells

abbrev pub CanMendOne : FixPlan → Examined → StartsValue → List (List FileState) → List FolderView → Type 0
CanMendOne plan one starts states folders =
    CanMend plan one.stripe one.slot one.window.now one.own.now.marks.items one.own.now.known starts states folders

abbrev pub MendsOne : {W R : Type 0} → (W → SinkView) → (R → ReportView) → (R → List Event → Type 0) → FixPlan → Examined
    → FilesOutside W R → FilesOutside W R → Repaired → Type 0
MendsOne view standing stands plan one old new repaired =
    MendsFiles view standing stands plan one.stripe one.slot one.window.now one.own.now.marks.items one.own.now.known old new repaired

abbrev pub MendsNotOne : {W R : Type 0} → (W → SinkView) → (R → ReportView) → (R → List Event → Type 0) → FixPlan → Examined
    → FilesOutside W R → FilesOutside W R → ℕ → Type 0
MendsNotOne view standing stands plan one old new disk =
    MendsNotFiles view standing stands plan one.stripe one.slot one.window.now one.own.now.marks.items one.own.now.known old new disk

-- ---- its levels

abbrev pub CanMendRow : FixPlan → Examined → List ℕ → VaultView → Type 0
CanMendRow plan one block vault = CanMendLevels plan one.own.now.levels block vault

abbrev pub TellsWrongOne : FixPlan → Examined → Type 0
TellsWrongOne plan one = TellsWrong plan one.stripe one.own.now.levels (row_if one.own.now.known one.window.now one.slot) one.own.now.wrong

abbrev pub MendsRow : {W R : Type 0} → (W → SinkView) → (R → ReportView) → (R → List Event → Type 0) → FixPlan → Examined
    → LevelsOutside W R → LevelsOutside W R → ℕ → Type 0
MendsRow view standing stands plan one old new count =
    MendsLevels view standing stands plan one.stripe one.slot one.window.now one.own.now.levels one.own.now.known old new count

abbrev pub MendsNotRow : {W R : Type 0} → (W → SinkView) → (R → ReportView) → (R → List Event → Type 0) → FixPlan → Examined
    → LevelsOutside W R → LevelsOutside W R → Type 0
MendsNotRow view standing stands plan one old new =
    MendsNotLevels view standing stands plan one.stripe one.slot one.window.now one.own.now.levels one.own.now.known old new

-- whichever its facts, the levels that were written are kept
abbrev pub FlagsOne : FixPlan → Examined → List Bool → List Bool → Type 0
FlagsOne plan one before after = (facts : StripeFacts) → ShowsLevels facts one.stripe one.slot one.window.now one.own.now.levels one.own.now.known
    → FlagsWritten plan facts before after

-- the same where a recovery of its blocks is tried
abbrev pub IfSearched : FixPlan → Examined → Type 0 → Type 0
IfSearched plan one P = is_searched plan one.stripe ≡ true → P

abbrev pub ShowsTriedOne : FixPlan → StripeFacts → Examined → Type 0
ShowsTriedOne plan facts one = ShowsTried plan facts one.stripe one.slot one.window.now one.own.now.levels one.own.now.known

abbrev pub MendsRowTried : {W R : Type 0} → (W → SinkView) → (R → ReportView) → (R → List Event → Type 0) → FixPlan → Examined
    → List Bool → List Bool → LevelsOutside W R → LevelsOutside W R → ℕ → Type 0
MendsRowTried view standing stands plan one before after old new count =
    (facts : StripeFacts) → ShowsTriedOne plan facts one → MendsParity view standing stands plan facts before after old new count

abbrev pub MendsNotRowTried : {W R : Type 0} → (W → SinkView) → (R → ReportView) → (R → List Event → Type 0) → FixPlan → Examined
    → LevelsOutside W R → LevelsOutside W R → Type 0
MendsNotRowTried view standing stands plan one old new =
    (facts : StripeFacts) → ShowsTriedOne plan facts one → MendsNotParity view standing stands plan facts old new

-- ---- all of it, whatever the spare is, which is not asked

-- all that a fix works on, and the same with a spare that holds nothing
abbrev pub scene_at : {F V P W R : Type 0} → (F → FolderView) → (V → VaultView) → (P → SpareView) → Workspace → List F → V → P
    → Lines W → List R → FixScene W R
scene_at view vault_view holding space folders vault spare lines reports =
    fix_scene space.progress.starts space.progress.states space.progress.written.items (map view folders) (vault_view vault) (holding spare) lines reports

abbrev pub beside : {F V W R : Type 0} → (F → FolderView) → (V → VaultView) → Progress → List F → V → Lines W → List R → FixScene W R
beside view vault_view progress folders vault lines reports =
    fix_scene progress.starts progress.states progress.written.items (map view folders) (vault_view vault) nothing lines reports

abbrev pub with_spare : {W R : Type 0} → FixScene W R → SpareView → FixScene W R
with_spare scene spare = record scene { spare = spare }

abbrev pub FixesOne : {W R : Type 0} → (W → SinkView) → (R → ReportView) → (R → List Event → Type 0) → FixPlan → Examined
    → FixScene W R → FixScene W R → Totals → Type 0
FixesOne view standing stands plan one old new totals = (facts : StripeFacts) (spare : SpareView) → ShowsOne plan facts one
    → IsSpareFor plan.table.shape spare → FixesStripe view standing stands plan facts (with_spare old spare) (with_spare new spare) totals

abbrev pub BreaksOne : {W R : Type 0} → (W → SinkView) → (R → ReportView) → (R → List Event → Type 0) → FixPlan → Examined
    → FixScene W R → FixScene W R → RunFault → Type 0
BreaksOne view standing stands plan one old new fault = (facts : StripeFacts) (spare : SpareView) → ShowsOne plan facts one
    → BreaksStripe view standing stands plan facts (with_spare old spare) (with_spare new spare) fault

-- ---- stripes that were examined, whichever their facts are

-- these are their facts
abbrev pub ShowsIn : List StripeFacts → Stretch → Shown → Type 0
ShowsIn all stretch shown = ShowsAll (seen stretch.plan) all stretch.stripes.now shown.window.now shown.rooms.now

abbrev pub FixesShown : {W R : Type 0} → (W → SinkView) → (R → ReportView) → (R → List Event → Type 0) → Stretch → Shown
    → FixScene W R → FixScene W R → Totals → Type 0
FixesShown view standing stands stretch shown old new totals = (all : List StripeFacts) (spare : SpareView) → ShowsIn all stretch shown
    → IsSpareFor stretch.plan.table.now.shape spare → MendsInto view standing stands (seen stretch.plan) all (with_spare old spare) (with_spare new spare) totals

abbrev pub BreaksShown : {W R : Type 0} → (W → SinkView) → (R → ReportView) → (R → List Event → Type 0) → Stretch → Shown
    → FixScene W R → FixScene W R → RunFault → Type 0
BreaksShown view standing stands stretch shown old new fault = (all : List StripeFacts) (spare : SpareView) → ShowsIn all stretch shown
    → IsSpareFor stretch.plan.table.now.shape spare → MendsNotInto view standing stands (seen stretch.plan) all (with_spare old spare) (with_spare new spare) fault

-- ---- stripes that are looked at, by the window of the space

abbrev pub CanExamineStretch : Stretch → Workspace → Type 0
CanExamineStretch stretch space = CanExamineWindow (seen stretch.plan) space.progress.starts stretch.stripes.now space.room

-- before they are examined, the fix came so far
abbrev pub IsUnderway : Stretch → Workspace → List FolderView → Type 0
IsUnderway stretch space folders = FixUnderway (seen stretch.plan) folders space.progress.starts space.progress.states

abbrev pub FixesStretch : {W R : Type 0} → (W → SinkView) → (R → ReportView) → (R → List Event → Type 0) → Stretch → Workspace
    → FixScene W R → FixScene W R → Totals → Type 0
FixesStretch view standing stands stretch space old new totals =
    FixesWindow view standing stands (seen stretch.plan) stretch.stripes.now space.room.window old new totals

abbrev pub BreaksStretch : {W R : Type 0} → (W → SinkView) → (R → ReportView) → (R → List Event → Type 0) → Stretch → Workspace
    → FixScene W R → FixScene W R → RunFault → Type 0
BreaksStretch view standing stands stretch space old new fault =
    BreaksWindow view standing stands (seen stretch.plan) stretch.stripes.now space.room.window old new fault
