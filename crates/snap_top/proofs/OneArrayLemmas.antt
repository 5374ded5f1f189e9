-- Two checks of one array, or a check and a fix, find the same, where no count of faults rose.
use Rattle.std.proofs.Common.{◌≡◌, ◌↔◌, ⊎_elim, ℕ, ◌*◌, ◌<◌, List, ◌++◌, length, get_or, Bool, true, false, IsTrue, Ok, refl, sym, ap, ◌∙◌, subst, arith}
use Rattle.std.specs.Prelude.{All, None, Some, count_by}
use Rattle.std.proofs.lemmas.Bool.{cases_lt}
use Rattle.std.proofs.lemmas.List.{ext_get_or, get_or-map, get_or_past, length-map}
use Rattle.folder_listing.specs.Kept.{ListedFile}
use Rattle.disk_model.specs.Bytes.{read_from}
use Rattle.disk_model.specs.Files.{Files, parity_of}
use Rattle.disk_model.specs.Folder.{FolderView}
use Rattle.disk_model.specs.Tree.{Tree}
use Rattle.file_table.specs.Table.{TableValue}
use Rattle.file_table.specs.Valid.{IsValid}
use Rattle.parity_writer.specs.LevelReading.{kept_level}
use Rattle.parity_writer.specs.LevelsValue.{LevelValue, no_level}
use Rattle.array_setup.specs.Setup.{SetupValue}
use Rattle.snap_config.specs.declared.options.Command.{Command}
use Rattle.snap_config.specs.declared.options.Command.TheVariants as commands
use Rattle.snap_config.specs.declared.options.Options.{Options}
use Rattle.array_setup.specs.declared.ways.Selection.{Selection}
use Rattle.snap_fix.specs.Course.{IsPlan, check_events}
use Rattle.snap_fix.specs.Fixing.{facts_of}
use Rattle.snap_fix.specs.Found.{DifferInMode}
use Rattle.snap_report.specs.Kind.{is_finding}
use Rattle.snap_report.specs.declared.events.Event.{Event}
use Rattle.snap_sync.specs.Part.{AllTell, NoneRose, trees_of}
use Rattle.stripe_examiner.specs.Facts.{StripeFacts, slot_of}
use Rattle.stripe_examiner.specs.Findings.{events_of, opening_events}
use Rattle.stripe_examiner.specs.Known.{AreFacts, IsTried}
use Rattle.stripe_examiner.specs.Looking.{facts_at, no_facts, numbers_of, unread_in}
use Rattle.repair_scope.specs.Plan.{FixPlan, is_searched, names_of, stripes_of}
use Rattle.repair_scope.specs.declared.scope.Mode.{Mode}
use Rattle.repair_scope.specs.declared.scope.Mode.TheVariants as modes
use Rattle.stripe_reader.specs.WindowValue.{no_slot}
use Rattle.snap_top.specs.Alike.{AskAlike, CheckAlike, FixAlike, HoldAlike, KeptAlike}
use Rattle.snap_top.specs.Unbroken.{NothingRose}
use Rattle.snap_top.specs.Check.{CheckRun}
use Rattle.snap_top.specs.Fix.{FixRun}
use Rattle.snap_top.specs.Stands.{TellsAll}
use Rattle.snap_top.specs.Naming.{HasChecked, events_found}
use Rattle.snap_top.specs.Began.{command_in}
use Rattle.snap_top.specs.Asked.{asked_by, IsConfigured}
use Rattle.snap_top.specs.Restoring.{EndsFixed}
use Rattle.snap_top.specs.Entry.{Entry, Exit}
use Rattle.snap_top.proofs.AlikeLemmas.{FixFindsWhatACheckFinds, one_plan}
use Rattle.snap_top.proofs.AskedLemmas.{command_asked, one_setup, same_loaded, same_status, unfailed}
use Rattle.snap_top.proofs.HeldLemmas.{CameAsHeld, check_held, fix_held, held_slot, lists_same, none_risen, tells_then}
use Rattle.snap_top.proofs.SeenLemmas.{IsDetermined, NoGifts, all_rows_same, all_told_same, kept_both, kept_same, rows_of, rows_same, told_same}
use Rattle.snap_top.proofs.SyncedLemmas.{OneTable}

abbrev pub FactsInMode : Type 0
FactsInMode = (check fix : FixPlan) (facts : StripeFacts) → DifferInMode check fix → (AreFacts check facts ↔ AreFacts fix facts)

-- ---- stripes of which the same came

module _ (determined : IsDetermined) (plan : FixPlan) (valid : IsValid plan.table) (lists : List (List ListedFile)) (trees : List Tree) (files : Files) (ones others : List StripeFacts)
    (are : All (AreFacts plan) ones) (are_then : All (AreFacts plan) others) (none : All NoGifts ones) (none_then : All NoGifts others) (numbers : numbers_of ones ≡ numbers_of others)
    (came : CameAsHeld plan.table lists trees files ones) (came_then : CameAsHeld plan.table lists trees files others) where
  abbrev number : StripeFacts → ℕ
  number facts = facts.stripe

  abbrev size : ℕ
  size = plan.table.shape.block_size

  pub as_many : length ones ≡ length others
  as_many = sym (length-map ones number) ∙ ap length numbers ∙ length-map others number

  module _ (k : ℕ) (within : k < length ones) where
    abbrev one : StripeFacts
    one = facts_at ones k

    abbrev other : StripeFacts
    other = facts_at others k

    within_then : k < length others
    within_then = omega (arith, within, as_many)

    its : AreFacts plan one
    its = are k no_facts within

    its_then : AreFacts plan other
    its_then = are_then k no_facts within_then

    pub stripe_same : one.stripe ≡ other.stripe
    stripe_same = sym (get_or-map number ones k no_facts 0 within) ∙ ap (λ (ns : List ℕ). get_or ns k 0) numbers ∙ get_or-map number others k no_facts 0 within_then

    pub slot_alike : (d : ℕ) → KeptAlike (slot_of one d) (slot_of other d)
    slot_alike d = ⊎_elim
        (λ below. kept_both (slot_of one d) (slot_of other d) (held_slot plan.table lists trees d one.stripe)
        (came.slots k d within below)
        (subst (λ (s : ℕ). KeptAlike (slot_of other d) (held_slot plan.table lists trees d s)) (sym stripe_same) (came_then.slots k d within_then below)))
        (λ past. kept_same (slot_of one d) (slot_of other d)
        (get_or_past one.slots d no_slot (omega (arith, past, its.slots)) ∙ sym (get_or_past other.slots d no_slot (omega (arith, past, its_then.slots)))))
        (cases_lt d (length plan.table.columns))

    pub gifts_same : one.gifts ≡ other.gifts
    gifts_same = ext_get_or None one.gifts other.gifts (its.gifts ∙ sym its_then.gifts) (λ d below. none k no_facts within d ∙ sym (none_then k no_facts within_then d))

    -- as many levels, by whether a recovery is tried
    level_count : (b : Bool) → IsTried plan one b → IsTried plan other b → length one.levels ≡ length other.levels
    level_count true a b = a.0 ∙ sym b.0
    level_count false a b = ap (λ (levels : List LevelValue). length levels) (a.1 ∙ sym b.1)

    pub levels_same : one.levels ≡ other.levels
    levels_same =
        let many : length one.levels ≡ length other.levels
        = level_count (is_searched plan one.stripe) its.tried (subst (λ (s : ℕ). IsTried plan other (is_searched plan s)) (sym stripe_same) its_then.tried) in
        ext_get_or no_level one.levels other.levels many
        (λ r below.
        came.levels k r within below
        ∙ ap (λ (s : ℕ). kept_level size (Some (read_from (parity_of files r) (s * size) size))) stripe_same
        ∙ sym (came_then.levels k r within_then (omega (arith, below, many))))

  pub same_events : events_of plan ones ≡ events_of plan others
  same_events = all_told_same plan ones others as_many (λ k within.
      told_same determined plan valid (one k within) (other k within) (its k within) (its_then k within) (stripe_same k within) (slot_alike k within) (gifts_same k within)
      (none_then k no_facts (within_then k within)) (levels_same k within))

  pub same_rows : rows_of ones ≡ rows_of others
  same_rows = all_rows_same ones others as_many (λ k within.
      rows_same determined plan valid (one k within) (other k within) (its k within) (its_then k within) (stripe_same k within) (slot_alike k within) (gifts_same k within)
      (none_then k no_facts (within_then k within)) (levels_same k within))

-- ---- two runs that were asked for the same

-- what a command selects
chosen : Selection → Command → Selection
chosen none (commands.Check selection) = selection
chosen none (commands.Audit selection) = selection
chosen none (commands.Fix selection) = selection
chosen none _ = none

pub one_selection : (mode : Mode) (a b : Selection) → command_in mode a ≡ command_in mode b → a ≡ b
unfolding chosen
one_selection modes.Check a b same = ap (chosen a) same
one_selection modes.Audit a b same = ap (chosen a) same
one_selection modes.Fix a b same = ap (chosen a) same

-- the selection of a run
selection_is : (mode : Mode) (before : Entry) → IsTrue before.opener.tells → (readers : ℕ) (asked : Options) (selection : Selection) → asked_by before.texts ≡ Ok asked → asked.command ≡ command_in mode selection
    → (its : Selection) (setup : SetupValue) → IsConfigured before.texts before.opener (command_in mode its) readers setup → its ≡ selection
selection_is mode before tells readers asked selection words command its setup is = one_selection mode its selection (command_asked before tells asked words (command_in mode its) readers setup is ∙ command)

-- a plan of the same
pub plan_as : (mode : Mode) (selection selection_then : Selection) (names names_then : List (List ℕ)) (table table_then : TableValue) (lists lists_then : List (List ListedFile)) (plan : FixPlan)
    → selection ≡ selection_then → names ≡ names_then → table ≡ table_then → lists ≡ lists_then → IsPlan mode selection_then names_then table_then lists_then plan → IsPlan mode selection names table lists plan
plan_as mode selection selection_then names names_then table table_then lists lists_then plan a b c d is =
    subst (λ (s : Selection). IsPlan mode s names table lists plan) (sym a)
    (subst (λ (ns : List (List ℕ)). IsPlan mode selection_then ns table lists plan) (sym b)
    (subst (λ (t : TableValue). IsPlan mode selection_then names_then t lists plan) (sym c)
    (subst (λ (ls : List (List ListedFile)). IsPlan mode selection_then names_then table_then ls plan) (sym d) is)))

pub came_as : (table table_then : TableValue) (lists lists_then : List (List ListedFile)) (trees trees_then : List Tree) (files files_then : Files) (stripes : List StripeFacts)
    → table ≡ table_then → lists ≡ lists_then → trees ≡ trees_then → files ≡ files_then → CameAsHeld table_then lists_then trees_then files_then stripes → CameAsHeld table lists trees files stripes
came_as table table_then lists lists_then trees trees_then files files_then stripes a b c d came =
    subst (λ (t : TableValue). CameAsHeld t lists trees files stripes) (sym a)
    (subst (λ (ls : List (List ListedFile)). CameAsHeld table_then ls trees files stripes) (sym b)
    (subst (λ (ts : List Tree). CameAsHeld table_then lists_then ts files stripes) (sym c)
    (subst (λ (fs : Files). CameAsHeld table_then lists_then trees_then fs stripes) (sym d) came)))

-- what both share: a check, and another run that was asked for the same
module _ (mode mode_then : Mode) (before before_then : Entry) (hold : HoldAlike before before_then) (ask : AskAlike mode mode_then before before_then)
    (selection selection_then : Selection) (setup setup_then : SetupValue) (readers readers_then : ℕ) (is : IsConfigured before.texts before.opener (command_in mode selection) readers setup)
    (is_then : IsConfigured before_then.texts before_then.opener (command_in mode_then selection_then) readers_then setup_then) where
  pub selections : selection ≡ selection_then
  selections =
      selection_is mode before hold.tells.tells readers ask.asked ask.selection ask.words ask.command_is selection setup is
      ∙ sym (selection_is mode_then before_then hold.tells_then.tells readers_then ask.asked_then ask.selection ask.words_then ask.command_then selection_then setup_then is_then)

  pub setups : setup ≡ setup_then
  setups = one_setup before before_then hold ask.asked ask.asked_then ask.words ask.words_then ask.log (command_in mode selection) (command_in mode_then selection_then) readers readers_then setup setup_then is is_then

-- of a check or an audit what came is what is held
module _ (mode : Mode) (before : Entry) (exit : Exit) (status : ℕ) (tells : TellsAll before) (well : NothingRose before exit) (run : CheckRun) (has : HasChecked mode before exit status run) where
  pub check_tells : AllTell run.folders
  check_tells = subst AllTell (sym has.is_check.folders_are) tells.tells_folders

  check_well : NoneRose run.folders run.ended
  check_well = subst (λ (fs : List FolderView). NoneRose fs run.ended) (sym has.is_check.folders_are)
      (subst (λ (fs : List FolderView). NoneRose before.opener.folders fs) (sym has.is_check.ended_is) well.folders)

  pub check_came : CameAsHeld run.loaded run.lists (trees_of run.folders) before.opener.vault.files run.stripes
  check_came =
      let over = has.is_check.over in
      check_held run.plan run.loaded over.plan_is.table_is run.lists run.stripes run.folders run.listed run.ended over.listed over.as_many over.columns check_tells check_well over.read
      before.opener.vault run.readings over.levels tells.tells_vault
      (none_risen (unread_in run.readings) before.opener.vault.faults exit.after.vault.faults well.vault has.unread_levels)

-- and so it is of a fix
module _ (before : Entry) (exit : Exit) (status : ℕ) (tells : TellsAll before) (well : NothingRose before exit) (ends : EndsFixed before exit status) where
  abbrev fix : FixRun
  fix = ends.run

  pub fix_tells : AllTell fix.folders
  fix_tells = subst AllTell (sym ends.is_fix.folders_are) tells.tells_folders

  pub fix_well : NoneRose fix.folders fix.ended
  fix_well = subst (λ (fs : List FolderView). NoneRose fs fix.ended) (sym ends.is_fix.folders_are)
      (subst (λ (fs : List FolderView). NoneRose before.opener.folders fs) (sym ends.is_fix.ended_is) well.folders)

  pub fix_came : CameAsHeld fix.loaded fix.lists (trees_of fix.folders) before.opener.vault.files (facts_of fix.stripes)
  fix_came =
      let over = ends.is_fix.over in
      fix_held fix.plan fix.loaded over.plan_is.table_is fix.lists (facts_of fix.stripes) fix.folders fix.listed fix.ended over.listed over.columns fix_tells fix_well over.finds.cells ends.unread
      before.opener.vault fix.readings over.finds.levels tells.tells_vault
      (none_risen (unread_in fix.readings) before.opener.vault.faults exit.after.vault.faults well.vault ends.unread_levels)

pub checks_of_one_array : IsDetermined → OneTable → (mode : Mode) (before before_then : Entry) (exit exit_then : Exit) (status status_then : ℕ) (one other : CheckRun) → HoldAlike before before_then
    → AskAlike mode mode before before_then → NothingRose before exit → NothingRose before_then exit_then → HasChecked mode before exit status one → HasChecked mode before_then exit_then status_then other
    → CheckAlike one other status status_then
checks_of_one_array determined one_table mode before before_then exit exit_then status status_then one other hold ask well well_then has has_then =
    let is = has.is_check in
    let is_then = has_then.is_check in
    let over = is.over in
    let over_then = is_then.over in
    let selected : one.selection ≡ other.selection
    = selections mode mode before before_then hold ask one.selection other.selection one.setup other.setup is.readers is_then.readers is.configured is_then.configured in
    let set : one.setup ≡ other.setup
    = setups mode mode before before_then hold ask one.selection other.selection one.setup other.setup is.readers is_then.readers is.configured is_then.configured in
    let loaded : one.loaded ≡ other.loaded
    = same_loaded one_table before before_then hold one.setup other.setup one.loaded other.loaded set (is.loading.from (unfailed before exit is.loading well)) (is_then.loading.from (unfailed before_then exit_then is_then.loading well_then)) in
    let trees : trees_of one.folders ≡ trees_of other.folders = ap trees_of is.folders_are ∙ hold.trees ∙ sym (ap trees_of is_then.folders_are) in
    let lists : one.lists ≡ other.lists = lists_same one.folders one.listed other.folders other.listed one.lists other.lists over.listed over_then.listed
    (check_tells mode before exit status hold.tells well one has) (check_tells mode before_then exit_then status_then hold.tells_then well_then other has_then) trees in
    let plans : one.plan ≡ other.plan = one_plan mode one.selection (names_of one.setup) one.loaded one.lists one.plan other.plan over.plan_is
    (plan_as mode one.selection other.selection (names_of one.setup) (names_of other.setup) one.loaded other.loaded one.lists other.lists other.plan selected (ap names_of set) loaded lists over_then.plan_is) in
    let valid : IsValid one.plan.table = subst IsValid (sym over.plan_is.table_is) over.valid in
    let are_then : All (AreFacts one.plan) other.stripes = subst (λ (p : FixPlan). All (AreFacts p) other.stripes) (sym plans) over_then.are in
    let numbers : numbers_of one.stripes ≡ numbers_of other.stripes = over.numbers ∙ ap stripes_of plans ∙ sym over_then.numbers in
    let came = came_as one.plan.table one.loaded one.lists one.lists (trees_of one.folders) (trees_of one.folders) before.opener.vault.files before.opener.vault.files one.stripes over.plan_is.table_is refl refl refl
    (check_came mode before exit status hold.tells well one has) in
    let came_then = came_as one.plan.table other.loaded one.lists other.lists (trees_of one.folders) (trees_of other.folders) before.opener.vault.files before_then.opener.vault.files other.stripes
    (over.plan_is.table_is ∙ loaded) lists trees hold.files (check_came mode before_then exit_then status_then hold.tells_then well_then other has_then) in
    let told : events_of one.plan one.stripes ≡ events_of one.plan other.stripes = same_events determined one.plan valid one.lists (trees_of one.folders) before.opener.vault.files one.stripes other.stripes over.are are_then
    over.no_gifts over_then.no_gifts numbers came came_then in
    let events : events_found one ≡ events_found other
    = ap (λ (es : List Event). opening_events one.plan ++ es) told ∙ ap (λ (p : FixPlan). check_events p other.stripes) plans in
    record {
      loaded = loaded;
      rows = same_rows determined one.plan valid one.lists (trees_of one.folders) before.opener.vault.files one.stripes other.stripes over.are are_then over.no_gifts over_then.no_gifts numbers came came_then;
      events = events;
      statuses = same_status status status_then has.output_failed has_then.output_failed _ _ (λ none. sym (ap (count_by is_finding) events) ∙ none) (λ none. ap (count_by is_finding) events ∙ none) has.status_is
          has_then.status_is;
    }

-- ---- a check and a fix

pub a_fix_of_one_array : IsDetermined → FactsInMode → FixFindsWhatACheckFinds → OneTable → (before before_then : Entry) (exit exit_then : Exit) (status status_then : ℕ) (one : CheckRun) (ends : EndsFixed before_then exit_then status_then)
    → HoldAlike before before_then → AskAlike modes.Check modes.Fix before before_then → NothingRose before exit → NothingRose before_then exit_then → HasChecked modes.Check before exit status one
    → FixAlike one ends.run ends.finishes
a_fix_of_one_array determined in_mode says one_table before before_then exit exit_then status status_then one ends hold ask well well_then has =
    let is = has.is_check in
    let is_then = ends.is_fix in
    let over = is.over in
    let over_then = is_then.over in
    let other : FixRun = ends.run in
    let stripes : List StripeFacts = facts_of other.stripes in
    let selected : one.selection ≡ other.selection
    = selections modes.Check modes.Fix before before_then hold ask one.selection other.selection one.setup other.setup is.readers is_then.readers is.configured is_then.configured in
    let set : one.setup ≡ other.setup
    = setups modes.Check modes.Fix before before_then hold ask one.selection other.selection one.setup other.setup is.readers is_then.readers is.configured is_then.configured in
    let loaded : one.loaded ≡ other.loaded
    = same_loaded one_table before before_then hold one.setup other.setup one.loaded other.loaded set (is.loading.from (unfailed before exit is.loading well)) (is_then.loading.from (unfailed before_then exit_then is_then.loading well_then)) in
    let trees : trees_of one.folders ≡ trees_of other.folders = ap trees_of is.folders_are ∙ hold.trees ∙ sym (ap trees_of is_then.folders_are) in
    let tell : AllTell other.folders = fix_tells before_then exit_then status_then hold.tells_then well_then ends in
    let lists : one.lists ≡ other.lists = lists_same one.folders one.listed other.folders other.listed one.lists other.lists over.listed over_then.listed
    (check_tells modes.Check before exit status hold.tells well one has) tell trees in
    let differ : DifferInMode one.plan other.plan = says.plans one.selection (names_of one.setup) one.loaded one.lists one.plan other.plan over.plan_is
    (plan_as modes.Fix one.selection other.selection (names_of one.setup) (names_of other.setup) one.loaded other.loaded one.lists other.lists other.plan selected (ap names_of set) loaded lists over_then.plan_is) in
    let valid : IsValid one.plan.table = subst IsValid (sym over.plan_is.table_is) over.valid in
    let are_then : All (AreFacts one.plan) stripes = λ k d within. (in_mode one.plan other.plan (get_or stripes k d) differ).1 (over_then.finds.are k d within) in
    let numbers : numbers_of one.stripes ≡ numbers_of stripes = over.numbers ∙ says.stripes one.plan other.plan differ ∙ sym ends.fixed.numbers in
    let came = came_as one.plan.table one.loaded one.lists one.lists (trees_of one.folders) (trees_of one.folders) before.opener.vault.files before.opener.vault.files one.stripes over.plan_is.table_is refl refl refl
    (check_came modes.Check before exit status hold.tells well one has) in
    let came_then = came_as one.plan.table other.loaded one.lists other.lists (trees_of one.folders) (trees_of other.folders) before.opener.vault.files before_then.opener.vault.files stripes
    (over.plan_is.table_is ∙ loaded) lists trees hold.files (fix_came before_then exit_then status_then hold.tells_then well_then ends) in
    let told : events_of one.plan one.stripes ≡ events_of one.plan stripes = same_events determined one.plan valid one.lists (trees_of one.folders) before.opener.vault.files one.stripes stripes over.are are_then over.no_gifts
    over_then.no_gifts numbers came came_then in
    let columns : length other.plan.table.columns ≡ length other.loaded.columns = ap (λ (t : TableValue). length t.columns) over_then.plan_is.table_is in
    record {
      loaded = loaded;
      rows = same_rows determined one.plan valid one.lists (trees_of one.folders) before.opener.vault.files one.stripes stripes over.are are_then over.no_gifts over_then.no_gifts numbers came came_then;
      events = says.fixed other.plan _ other.stripes ends.finishes other.listed other.ended ends.fixed
          (λ d below. tells_then other.folders other.listed other.lists over_then.listed tell d (omega (arith, below, columns, over_then.columns)))
          ∙ sym (says.events one.plan other.plan stripes differ)
          ∙ ap (λ (es : List Event). opening_events one.plan ++ es) (sym told);
    }
