-- Checks that read the same find the same, and so do a check and a fix.
use Rattle.std.proofs.Common.{◌≡◌, ℕ, ◌<◌, List, length, get_or, Bool, IsTrue, Option, None, refl, sym, ap, ◌∙◌, subst, arith}
use Rattle.std.specs.Prelude.{filter}
use Rattle.std.specs.List.{All}
use Rattle.std.proofs.lemmas.List.{ext_get_or, get_or-map, length-map}
use Rattle.folder_listing.specs.Kept.{ListedFile}
use Rattle.disk_model.specs.Folder.{FolderView}
use Rattle.file_table.specs.Table.{TableValue}
use Rattle.file_table.specs.Valid.{IsValid}
use Rattle.array_setup.specs.declared.ways.Selection.{Selection}
use Rattle.snap_fix.specs.Course.{IsPlan, check_events}
use Rattle.snap_fix.specs.Ending.{Finishes}
use Rattle.snap_fix.specs.FixCourse.{fix_events}
use Rattle.snap_fix.specs.Fixing.{facts_of}
use Rattle.snap_fix.specs.Found.{DifferInMode}
use Rattle.snap_fix.specs.Mended.{Mended}
use Rattle.snap_fix.specs.Restored.{HasFixed}
use Rattle.snap_report.specs.Kind.{is_finding}
use Rattle.snap_sync.specs.Part.{AllTell}
use Rattle.stripe_examiner.specs.Alike.{AreReadAlike, SeeAlike}
use Rattle.stripe_examiner.specs.Facts.{StripeFacts, gift_of}
use Rattle.stripe_examiner.specs.Known.{AreFacts}
use Rattle.stripe_examiner.specs.Looking.{facts_at, no_facts, numbers_of}
use Rattle.repair_scope.specs.Plan.{FixPlan, is_audit, names_of, stripes_of}
use Rattle.repair_scope.specs.declared.entry.Entry.{Entry as PlanEntry}
use Rattle.repair_scope.specs.declared.scope.Mode.{Mode}
use Rattle.repair_scope.specs.declared.scope.Mode.TheVariants as modes
use Rattle.stripe_reader.specs.Columns.{folder_at}
use Rattle.stripe_reader.specs.Starts.{StartsValue}
use Rattle.snap_top.specs.Alike.{FindAlike, FixFindsAlike, ReadAlike, seen_by}
use Rattle.snap_top.specs.Check.{CheckRun}
use Rattle.snap_top.specs.Stands.{TellsAll}
use Rattle.snap_top.specs.Naming.{HasChecked, events_found}
use Rattle.snap_top.specs.Restoring.{EndsFixed, events_in}
use Rattle.snap_top.specs.Entry.{Entry, Exit}

-- ---- what the crates below say

abbrev pub StripesAreDetermined : Type 0
StripesAreDetermined = (plan other : FixPlan) (stripes others : List StripeFacts) → SeeAlike plan other → IsValid plan.table
    → All (AreFacts plan) stripes → All (AreFacts other) others → length stripes ≡ length others
    → ((k : ℕ) → k < length stripes → AreReadAlike (facts_at stripes k) (facts_at others k)) → stripes ≡ others

-- of the plans of a check and of a fix
pub record FixFindsWhatACheckFinds : Type 0 where
  pub plans : (selection : Selection) (names : List (List ℕ)) (table : TableValue) (lists : List (List ListedFile)) (check fix : FixPlan)
      → IsPlan modes.Check selection names table lists check → IsPlan modes.Fix selection names table lists fix → DifferInMode check fix
  pub stripes : (check fix : FixPlan) → DifferInMode check fix → stripes_of check ≡ stripes_of fix
  pub events : (check fix : FixPlan) (stripes : List StripeFacts) → DifferInMode check fix → check_events check stripes ≡ check_events fix stripes
  pub fixed : (plan : FixPlan) (starts : StartsValue) (stripes : List Mended) (finishes : Finishes) (firsts news : List FolderView) → HasFixed plan starts stripes finishes firsts news
      → ((d : ℕ) → d < length plan.table.columns → IsTrue (folder_at firsts d).tells) → filter is_finding (fix_events plan stripes finishes) ≡ check_events plan (facts_of stripes)

-- ---- what is known of the stripes

abbrev NoGifts : StripeFacts → Type 0
NoGifts facts = (d : ℕ) → gift_of facts d ≡ None

module _ (determined : StripesAreDetermined) (one other : CheckRun) (alike : ReadAlike one other) (see : SeeAlike one.plan other.plan) (valid : IsValid one.plan.table)
    (numbers : numbers_of one.stripes ≡ numbers_of other.stripes) (are : All (AreFacts one.plan) one.stripes) (are_then : All (AreFacts other.plan) other.stripes)
    (none : All NoGifts one.stripes) (none_then : All NoGifts other.stripes) where
  abbrev number : StripeFacts → ℕ
  number facts = facts.stripe

  as_many : length one.stripes ≡ length other.stripes
  as_many = sym (length-map one.stripes number) ∙ ap length numbers ∙ length-map other.stripes number

  columns : length one.plan.table.columns ≡ length other.plan.table.columns
  columns = ap (λ (t : TableValue). length t.columns) see.table

  each : (k : ℕ) → k < length one.stripes → AreReadAlike (facts_at one.stripes k) (facts_at other.stripes k)
  each k within =
      let within_then : k < length other.stripes = omega (arith, within, as_many) in
      let facts : StripeFacts = facts_at one.stripes k in
      let facts_then : StripeFacts = facts_at other.stripes k in
      let its : AreFacts one.plan facts = are k no_facts within in
      let its_then : AreFacts other.plan facts_then = are_then k no_facts within_then in
      let came = alike.came k within in
      record {
        stripe = sym (get_or-map number one.stripes k no_facts 0 within) ∙ ap (λ (ns : List ℕ). get_or ns k 0) numbers ∙ get_or-map number other.stripes k no_facts 0 within_then;
        slots = came.slots;
        gifts = ext_get_or None facts.gifts facts_then.gifts (its.gifts ∙ columns ∙ sym its_then.gifts)
            (λ d below. none k no_facts within d ∙ sym (none_then k no_facts within_then d));
        levels = came.levels;
      }

  pub same_facts : one.stripes ≡ other.stripes
  same_facts = determined one.plan other.plan one.stripes other.stripes see valid are are_then as_many each

-- ---- two checks

-- a plan is what follows of its mode, its selection, its names, its table and its lists
module _ (mode : Mode) (selection : Selection) (names : List (List ℕ)) (table : TableValue) (lists : List (List ListedFile)) (plan other : FixPlan)
    (is : IsPlan mode selection names table lists plan) (is_then : IsPlan mode selection names table lists other) where
  abbrev plan_of : Mode → Bool → List Bool → TableValue → List (List PlanEntry) → FixPlan
  plan_of m bad levels t entries = record { scope = record { mode = m; only_bad = bad; levels = levels }; table = t; entries = entries }

  pub one_plan : plan ≡ other
  one_plan =
      ap (λ (m : Mode). plan_of m plan.scope.only_bad plan.scope.levels plan.table plan.entries) (is.scope.mode_is ∙ sym is_then.scope.mode_is)
      ∙ ap (λ (bad : Bool). plan_of other.scope.mode bad plan.scope.levels plan.table plan.entries) (is.scope.only_bad ∙ sym is_then.scope.only_bad)
      ∙ ap (λ (levels : List Bool). plan_of other.scope.mode other.scope.only_bad levels plan.table plan.entries) (is.scope.levels ∙ sym is_then.scope.levels)
      ∙ ap (λ (t : TableValue). plan_of other.scope.mode other.scope.only_bad other.scope.levels t plan.entries) (is.table_is ∙ sym is_then.table_is)
      ∙ ap (λ (entries : List (List PlanEntry)). plan_of other.scope.mode other.scope.only_bad other.scope.levels other.table entries) (is.entries ∙ sym is_then.entries)

-- the plan of the other is one of the same selection, names, table and lists
module _ (mode : Mode) (one other : CheckRun) (alike : ReadAlike one other) where
  plan_alike : IsPlan mode other.selection (names_of other.setup) other.loaded other.lists other.plan → IsPlan mode one.selection (names_of one.setup) one.loaded one.lists other.plan
  plan_alike is =
      subst (λ (selection : Selection). IsPlan mode selection (names_of one.setup) one.loaded one.lists other.plan) (sym alike.selection)
      (subst (λ (names : List (List ℕ)). IsPlan mode other.selection names one.loaded one.lists other.plan) (sym alike.names)
      (subst (λ (table : TableValue). IsPlan mode other.selection (names_of other.setup) table one.lists other.plan) (sym alike.loaded)
      (subst (λ (lists : List (List ListedFile)). IsPlan mode other.selection (names_of other.setup) other.loaded lists other.plan) (sym alike.lists) is)))

pub checks_alike : StripesAreDetermined → (mode : Mode) (before before_then : Entry) (exit exit_then : Exit) (status status_then : ℕ) (one other : CheckRun)
    → HasChecked mode before exit status one → HasChecked mode before_then exit_then status_then other → ReadAlike one other → FindAlike one other
checks_alike determined mode before before_then exit exit_then status status_then one other has has_then alike =
    let over = has.is_check.over in
    let over_then = has_then.is_check.over in
    let plans : one.plan ≡ other.plan = one_plan mode one.selection (names_of one.setup) one.loaded one.lists one.plan other.plan over.plan_is (plan_alike mode one other alike over_then.plan_is) in
    let see : SeeAlike one.plan other.plan = record { table = ap (λ (plan : FixPlan). plan.table) plans; audits = ap (λ (plan : FixPlan). is_audit plan.scope.mode) plans } in
    let numbers : numbers_of one.stripes ≡ numbers_of other.stripes = over.numbers ∙ ap stripes_of plans ∙ sym over_then.numbers in
    let facts : one.stripes ≡ other.stripes = same_facts determined one other alike see (subst IsValid (sym over.plan_is.table_is) over.valid) numbers over.are over_then.are over.no_gifts over_then.no_gifts in
    record {
      facts = facts;
      events = ap (λ (plan : FixPlan). check_events plan one.stripes) plans ∙ ap (λ (stripes : List StripeFacts). check_events other.plan stripes) facts;
    }

-- ---- a check and a fix

pub a_fix_alike : StripesAreDetermined → FixFindsWhatACheckFinds → (before before_then : Entry) (exit exit_then : Exit) (status status_then : ℕ) (one : CheckRun) (ends : EndsFixed before_then exit_then status_then)
    → HasChecked modes.Check before exit status one → TellsAll before_then → ReadAlike one (seen_by ends.run) → FixFindsAlike one ends.run ends.finishes
a_fix_alike determined says before before_then exit exit_then status status_then one ends has tells alike =
    let run = ends.run in
    let other : CheckRun = seen_by run in
    let over = has.is_check.over in
    let over_then = ends.is_fix.over in
    let differ : DifferInMode one.plan run.plan = says.plans one.selection (names_of one.setup) one.loaded one.lists one.plan run.plan over.plan_is (plan_alike modes.Fix one other alike over_then.plan_is) in
    let see : SeeAlike one.plan run.plan = record { table = differ.table; audits = ap is_audit differ.checks ∙ sym (ap is_audit differ.fixes) } in
    let numbers : numbers_of one.stripes ≡ numbers_of (facts_of run.stripes) = over.numbers ∙ says.stripes one.plan run.plan differ ∙ sym ends.fixed.numbers in
    let facts : one.stripes ≡ facts_of run.stripes
    = same_facts determined one other alike see (subst IsValid (sym over.plan_is.table_is) over.valid) numbers over.are over_then.finds.are over.no_gifts over_then.no_gifts in
    let tell : (d : ℕ) → d < length run.plan.table.columns → IsTrue (folder_at run.listed d).tells = λ d below.
    (let columns : length run.plan.table.columns ≡ length run.loaded.columns = ap (λ (t : TableValue). length t.columns) over_then.plan_is.table_is in
    let within : d < length run.folders = omega (arith, below, columns, over_then.columns) in
    let all_tell : AllTell run.folders = subst AllTell (sym ends.is_fix.folders_are) tells.tells_folders in
    (over_then.listed.each d within).call.called.goes_on.tells ∙ all_tell d within) in
    record {
      facts = facts;
      events = says.fixed run.plan _ run.stripes ends.finishes run.listed run.ended ends.fixed tell
          ∙ ap (λ (stripes : List StripeFacts). check_events run.plan stripes) (sym facts)
          ∙ sym (says.events one.plan run.plan one.stripes differ);
    }
