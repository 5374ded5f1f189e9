-- What a fix begins with, once its folders were listed.
use Rattle.std.proofs.Common.{◌≡◌, ℕ, ◌<◌, List, [], ◌++◌, length, All, refl, ap, ◌∙◌, subst, arith}
use Rattle.disk_model.specs.Cause.{RoseBy}
use Rattle.disk_model.specs.Folder.{FolderView}
use Rattle.file_table.specs.Table.{TableValue}
use Rattle.file_table.specs.Valid.{IsValid}
use Rattle.file_table.proofs.PrefixLemmas.{AllPairs-left}
use Rattle.array_setup.specs.declared.ways.Selection.{Selection}
use Rattle.stripe_reader.specs.Columns.{folder_at}
use Rattle.stripe_reader.specs.Reading.{task_at}
use Rattle.stripe_reader.specs.Starts.{StartsValue}
use Rattle.snap_fix.specs.declared.beginning.Work.{Work}
use Rattle.repair_scope.specs.declared.scope.Mode.{Mode}
use Rattle.file_restorer.specs.declared.state.FileState.{FileState}
use Rattle.snap_fix.specs.Beginning.{Begins}
use Rattle.snap_fix.specs.Checking.{plan_for}
use Rattle.snap_fix.specs.Course.{IsPlan}
use Rattle.snap_fix.specs.FixRun.{AreAscending}
use Rattle.snap_fix.specs.Fixing.{AreReadThen, facts_of}
use Rattle.stripe_examiner.specs.Facts.{StripeFacts, slot_of}
use Rattle.stripe_examiner.specs.Known.{AreFacts}
use Rattle.stripe_examiner.specs.Looking.{numbers_of}
use Rattle.snap_fix.specs.Mended.{Mended}
use Rattle.repair_scope.specs.Plan.{FixPlan, stripes_of}
use Rattle.stripe_examiner.specs.Place.{starts_of}
use Rattle.stripe_examiner.specs.Present.{ArePresent, IsPresent}
use Rattle.file_restorer.specs.State.{first_states}
use Rattle.snap_fix.specs.Underway.{AreUnderway}
use Rattle.snap_fix.proofs.FixStartLemmas.{begun_underway, stripes_ascending, underway_begun}
use Rattle.snap_fix.proofs.PresentLemmas.{present_at_first, starts_fit_first}

-- what was read of a stripe stood there at first
abbrev pub IsPresentAt : FixPlan → StartsValue → List FolderView → StripeFacts → Type 0
IsPresentAt plan starts firsts facts = (d : ℕ) → d < length plan.table.columns
    → IsPresent plan.table.shape (folder_at firsts d) (task_at plan.table starts d facts.stripe) (slot_of facts d)

module _ (mode : Mode) (selection : Selection) (names : List (List ℕ)) (table : TableValue) (work : Work) (olds mids : List FolderView)
    (begun : Begins mode selection names table work olds mids) (folders_are : length olds ≡ length table.columns) where
  abbrev starts : StartsValue
  starts = starts_of table begun.lists

  pub its_plan : IsPlan mode selection names table begun.lists (plan_for table work)
  its_plan = record { scope = begun.scope; table_is = refl; entries = begun.entries }

  -- by the starts that were found
  pub started_underway : (states : List (List FileState)) → states ≡ first_states work.starts → AreUnderway (plan_for table work) [] mids mids starts states
  started_underway states states_are =
      underway_begun selection names table begun.lists work.scope work.entries olds mids folders_are begun.listed starts states refl (states_are ∙ ap first_states begun.starts)

  -- a count of faults since before the listing
  pub listed_since : (d n now : ℕ) → d < length table.columns → RoseBy n (folder_at mids d).faults now → RoseBy n (folder_at olds d).faults now
  listed_since d n now within rose =
      let later = (begun.listed.each d (omega (arith, within, folders_are))).call.called.goes_on.later in
      omega (arith, later, rose)

  -- what was read of the first stripes stood there at first
  pub first_present : IsValid table → (stripes : List Mended) (behind : List ℕ) → stripes_of (plan_for table work) ≡ numbers_of (facts_of stripes) ++ behind
      → All (AreFacts (plan_for table work)) (facts_of stripes) → AreReadThen (plan_for table work) starts mids stripes → ArePresent (plan_for table work) starts mids (facts_of stripes)
  first_present valid stripes behind numbers are read =
      let ascending = AllPairs-left (λ (a b : ℕ). a < b) (numbers_of (facts_of stripes)) behind (subst AreAscending numbers (stripes_ascending (plan_for table work))) in
      let fit = starts_fit_first (plan_for table work) starts mids (begun_underway mode selection names table work olds mids begun folders_are) in
      present_at_first (plan_for table work) starts mids stripes valid ascending are fit read
