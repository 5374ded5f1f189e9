-- Two checks of one array, in which nothing failed, read the same, and look at a stripe if there is one.
use Rattle.std.proofs.Common.{◌≡◌, ℕ, zero, suc, ◌<◌, List, ◌∷◌, length, get_or, not, ◌&&◌, ◌||◌, Bool, true, false, refl, sym, ap, ◌∙◌, subst, arith}
use Rattle.std.specs.Prelude.{All, cond, filter, slice_index_or}
use Rattle.std.specs.List.{list_any, range_with_len}
use Rattle.std.proofs.lemmas.List.{ext_get_or, get_or-map, length-map}
use Rattle.folder_listing.specs.Kept.{ListedFile}
use Rattle.folder_listing.specs.Listings.{ListsAll}
use Rattle.disk_model.specs.Folder.{FolderView}
use Rattle.disk_model.specs.Tree.{Tree}
use Rattle.file_table.specs.Table.{TableValue, info_at}
use Rattle.file_table.specs.Valid.{IsValid}
use Rattle.array_setup.specs.declared.ways.Selection.{Selection}
use Rattle.snap_fix.specs.Course.{IsPlan}
use Rattle.snap_sync.specs.Part.{AllTell, NoneRose, tree_at, trees_of}
use Rattle.stripe_examiner.specs.Facts.{StripeFacts, slot_of}
use Rattle.stripe_examiner.specs.Known.{AreFacts}
use Rattle.stripe_examiner.specs.Looking.{AreRead, facts_at, no_facts, numbers_of}
use Rattle.repair_scope.specs.Plan.{FixPlan, IsScope, has_selected_cell, is_looked_at, names_of, selects_level, stripes_of}
use Rattle.stripe_examiner.specs.Place.{starts_of}
use Rattle.repair_scope.specs.declared.scope.Mode.{Mode}
use Rattle.stripe_reader.specs.Column.{IsReadingOf, no_task}
use Rattle.stripe_reader.specs.Columns.{folder_at}
use Rattle.stripe_reader.specs.Reading.{CellReading, NoBlock, Task, given_by, is_unread, task_at, tasks_at}
use Rattle.stripe_reader.specs.Slot.{kept}
use Rattle.stripe_reader.specs.SlotValue.{SlotValue}
use Rattle.stripe_reader.specs.WindowValue.{no_slot}
use Rattle.snap_top.specs.Alike.{AskAlike, HoldAlike, ReadAlike}
use Rattle.snap_top.specs.Unbroken.{NothingRose}
use Rattle.snap_top.specs.Check.{CheckRun}
use Rattle.snap_top.specs.Naming.{HasChecked}
use Rattle.snap_top.specs.Entry.{Entry, Exit}
use Rattle.snap_top.proofs.AlikeLemmas.{one_plan}
use Rattle.snap_top.proofs.AskedLemmas.{same_loaded, unfailed}
use Rattle.snap_top.proofs.HeldLemmas.{held_slot, lists_same, rose_since, tells_then, tree_then}
use Rattle.snap_top.proofs.OneArrayLemmas.{came_as, check_came, check_tells, levels_same, plan_as, selections, setups, stripe_same}
use Rattle.snap_top.proofs.ScrubGiven.{not_true, one_counted}
use Rattle.snap_top.proofs.SeenLemmas.{IsDetermined}
use Rattle.snap_top.proofs.SyncedLemmas.{OneTable}
use Rattle.snap_top_instances.specs.Asked.{everything}
use Rattle.snap_top_pairs.specs.Lost.{HasRows}

-- ---- some stripe is looked at

first_passes : (test : ℕ → Bool) (n : ℕ) → 0 < n → test 0 ≡ true → list_any test (range_with_len 0 n) ≡ true
first_passes test zero some is = absurd (omega (arith, some))
first_passes test (suc n) some is = ap (λ (b : Bool). b || list_any test (range_with_len 1 n)) is

first_kept : (test : ℕ → Bool) (n : ℕ) → 0 < n → test 0 ≡ true → 0 < length (filter test (range_with_len 0 n))
first_kept test zero some is = absurd (omega (arith, some))
first_kept test (suc n) some is =
    let rest : List ℕ = filter test (range_with_len 1 n) in
    let kept : 0 < length (0 ∷ rest) = omega arith in
    subst (λ (b : Bool). 0 < length (cond b (0 ∷ rest) rest)) (sym is) kept

or_true : (a b : Bool) → b ≡ true → (a || b) ≡ true
or_true true b is = refl
or_true false b is = is

-- of everything, the first level of each stripe is selected
level_selected : (mode : Mode) (plan : FixPlan) → IsScope mode everything plan.scope → selects_level plan 0 0 ≡ true
level_selected mode plan is =
    ap (λ (bad : Bool). (not bad || (info_at plan.table.infos 0).bad) && slice_index_or plan.scope.levels 0 false) is.only_bad
    ∙ ap (λ (levels : List Bool). slice_index_or levels 0 false) is.levels

-- so the first stripe is looked at
stripe_looked_at : (mode : Mode) (names : List (List ℕ)) (table : TableValue) (lists : List (List ListedFile)) (plan : FixPlan) → IsPlan mode everything names table lists plan → HasRows table → 0 < length (stripes_of plan)
stripe_looked_at mode names table lists plan is rows =
    let here : HasRows plan.table = subst HasRows (sym is.table_is) rows in
    first_kept (is_looked_at plan) (length plan.table.infos) here.stripes
    (or_true (has_selected_cell plan 0) (list_any (selects_level plan 0) (range_with_len 0 plan.table.shape.levels))
    (first_passes (selects_level plan 0) plan.table.shape.levels here.levels (level_selected mode plan is.scope)))

-- and its facts are there
pub stripe_found : (mode : Mode) (run : CheckRun) → run.selection ≡ everything → IsPlan mode run.selection (names_of run.setup) run.loaded run.lists run.plan → numbers_of run.stripes ≡ stripes_of run.plan → HasRows run.loaded
    → 0 < length run.stripes
stripe_found mode run all plan_is numbers rows =
    let some = stripe_looked_at mode (names_of run.setup) run.loaded run.lists run.plan (subst (λ (its : Selection). IsPlan mode its (names_of run.setup) run.loaded run.lists run.plan) all plan_is) rows in
    omega (arith, some, ap length numbers, length-map run.stripes (λ (facts : StripeFacts). facts.stripe))

-- ---- what a check keeps of its cells

-- where no count rose, it is what the trees hold, also what was seen of the files
module _ (plan : FixPlan) (table : TableValue) (table_is : plan.table ≡ table) (lists : List (List ListedFile)) (stripes : List StripeFacts) (olds mids news : List FolderView)
    (listed : ListsAll olds mids lists) (as_many : length mids ≡ length olds) (columns : length olds ≡ length table.columns) (tell : AllTell olds) (none : NoneRose olds news)
    (read : AreRead plan (starts_of table lists) stripes mids news) where
  slot_held : (k d : ℕ) → k < length stripes → d < length table.columns → slot_of (facts_at stripes k) d ≡ held_slot table lists (trees_of olds) d (facts_at stripes k).stripe
  slot_held k d within lt =
      let below : d < length olds = omega (arith, lt, columns) in
      let its = read.each d (omega (arith, below, as_many)) in
      let stripe : ℕ = (facts_at stripes k).stripe in
      let task_of : ℕ → Task = task_at plan.table (starts_of table lists) d in
      let reading : CellReading = get_or its.readings k NoBlock in
      let few : k < length (numbers_of stripes) = omega (arith, within, length-map stripes (λ (facts : StripeFacts). facts.stripe)) in
      let near : k < length its.readings = omega (arith, few, its.as_many, length-map (numbers_of stripes) task_of) in
      let slot_is : slot_of (facts_at stripes k) d ≡ kept plan.table.shape reading =
      sym (get_or-map (λ (facts : StripeFacts). slot_of facts d) stripes k no_facts no_slot within)
      ∙ ap (λ (slots : List SlotValue). get_or slots k no_slot) its.are_kept
      ∙ get_or-map (kept plan.table.shape) its.readings k NoBlock no_slot near in
      let task_is : get_or (tasks_at plan.table (starts_of table lists) d (numbers_of stripes)) k no_task ≡ task_of stripe =
      get_or-map task_of (numbers_of stripes) k 0 no_task few ∙ ap task_of (get_or-map (λ (facts : StripeFacts). facts.stripe) stripes k no_facts 0 within) in
      let is_of : IsReadingOf (folder_at mids d) (task_of stripe) reading = subst (λ (task : Task). IsReadingOf (folder_at mids d) task reading) task_is
      (its.are_of k (omega (arith, few, length-map (numbers_of stripes) task_of))) in
      let later = (listed.each d below).call.called.goes_on.later in
      let came : is_unread reading ≡ false = not_true (is_unread reading) (λ unread. none d below (rose_since _ _ _ _ (one_counted is_unread its.readings k NoBlock near unread) later its.unread)) in
      slot_is ∙ ap (kept plan.table.shape) (is_of.given (tells_then olds mids lists listed tell d below) came)
      ∙ ap (λ (tree : Tree). kept plan.table.shape (given_by tree (task_of stripe))) (tree_then olds mids lists listed tell d below)
      ∙ ap (λ (t : TableValue). kept t.shape (given_by (tree_at (trees_of olds) d) (task_at t (starts_of table lists) d stripe))) table_is

-- so it is of a check of a run
module _ (mode : Mode) (before : Entry) (exit : Exit) (status : ℕ) (hold_tells : AllTell before.opener.folders) (well : NothingRose before exit) (run : CheckRun) (has : HasChecked mode before exit status run) where
  slot_checked : (k d : ℕ) → k < length run.stripes → d < length run.loaded.columns → slot_of (facts_at run.stripes k) d ≡ held_slot run.loaded run.lists (trees_of run.folders) d (facts_at run.stripes k).stripe
  slot_checked =
      let is = has.is_check in
      let over = is.over in
      slot_held run.plan run.loaded over.plan_is.table_is run.lists run.stripes run.folders run.listed run.ended over.listed over.as_many over.columns
      (subst AllTell (sym is.folders_are) hold_tells)
      (subst (λ (fs : List FolderView). NoneRose fs run.ended) (sym is.folders_are) (subst (λ (fs : List FolderView). NoneRose before.opener.folders fs) (sym is.ended_is) well.folders)) over.read

held_same : (table table_then : TableValue) (lists lists_then : List (List ListedFile)) (trees trees_then : List Tree) (d stripe stripe_then : ℕ) → table ≡ table_then → lists ≡ lists_then → trees ≡ trees_then
    → stripe ≡ stripe_then → held_slot table lists trees d stripe ≡ held_slot table_then lists_then trees_then d stripe_then
held_same table table_then lists lists_then trees trees_then d stripe stripe_then tables are_lists are_trees stripes =
    ap (λ (t : TableValue). held_slot t lists trees d stripe) tables
    ∙ ap (λ (ls : List (List ListedFile)). held_slot table_then ls trees d stripe) are_lists
    ∙ ap (λ (ts : List Tree). held_slot table_then lists_then ts d stripe) are_trees
    ∙ ap (λ (s : ℕ). held_slot table_then lists_then trees_then d s) stripes

-- ---- two checks

pub read_alike : IsDetermined → OneTable → (mode : Mode) (before before_then : Entry) (exit exit_then : Exit) (status status_then : ℕ) (one other : CheckRun) → HoldAlike before before_then
    → AskAlike mode mode before before_then → NothingRose before exit → NothingRose before_then exit_then → HasChecked mode before exit status one → HasChecked mode before_then exit_then status_then other → ReadAlike one other
read_alike determined one_table mode before before_then exit exit_then status status_then one other hold ask well well_then has has_then =
    let is = has.is_check in
    let is_then = has_then.is_check in
    let over = is.over in
    let over_then = is_then.over in
    let selected : one.selection ≡ other.selection
    = selections mode mode before before_then hold ask one.selection other.selection one.setup other.setup is.readers is_then.readers is.configured is_then.configured in
    let set : one.setup ≡ other.setup
    = setups mode mode before before_then hold ask one.selection other.selection one.setup other.setup is.readers is_then.readers is.configured is_then.configured in
    let loaded : one.loaded ≡ other.loaded
    = same_loaded one_table before before_then hold one.setup other.setup one.loaded other.loaded set (is.loading.from (unfailed before exit is.loading well)) (is_then.loading.from (unfailed before_then exit_then is_then.loading well_then)) in
    let trees : trees_of one.folders ≡ trees_of other.folders = ap trees_of is.folders_are ∙ hold.trees ∙ sym (ap trees_of is_then.folders_are) in
    let lists : one.lists ≡ other.lists = lists_same one.folders one.listed other.folders other.listed one.lists other.lists over.listed over_then.listed
    (check_tells mode before exit status hold.tells well one has) (check_tells mode before_then exit_then status_then hold.tells_then well_then other has_then) trees in
    let plans : one.plan ≡ other.plan = one_plan mode one.selection (names_of one.setup) one.loaded one.lists one.plan other.plan over.plan_is
    (plan_as mode one.selection other.selection (names_of one.setup) (names_of other.setup) one.loaded other.loaded one.lists other.lists other.plan selected (ap names_of set) loaded lists over_then.plan_is) in
    let valid : IsValid one.plan.table = subst IsValid (sym over.plan_is.table_is) over.valid in
    let are_then : All (AreFacts one.plan) other.stripes = subst (λ (p : FixPlan). All (AreFacts p) other.stripes) (sym plans) over_then.are in
    let numbers : numbers_of one.stripes ≡ numbers_of other.stripes = over.numbers ∙ ap stripes_of plans ∙ sym over_then.numbers in
    let many : length one.stripes ≡ length other.stripes = sym (length-map one.stripes (λ (facts : StripeFacts). facts.stripe)) ∙ ap length numbers ∙ length-map other.stripes (λ (facts : StripeFacts). facts.stripe) in
    let came = came_as one.plan.table one.loaded one.lists one.lists (trees_of one.folders) (trees_of one.folders) before.opener.vault.files before.opener.vault.files one.stripes over.plan_is.table_is refl refl refl
    (check_came mode before exit status hold.tells well one has) in
    let came_then = came_as one.plan.table other.loaded one.lists other.lists (trees_of one.folders) (trees_of other.folders) before.opener.vault.files before_then.opener.vault.files other.stripes
    (over.plan_is.table_is ∙ loaded) lists trees hold.files (check_came mode before_then exit_then status_then hold.tells_then well_then other has_then) in
    let wide : length one.plan.table.columns ≡ length one.loaded.columns = ap (λ (t : TableValue). length t.columns) over.plan_is.table_is in
    let wide_then : length one.loaded.columns ≡ length other.loaded.columns = ap (λ (t : TableValue). length t.columns) loaded in
    record {
      selection = selected;
      names = ap names_of set;
      loaded = loaded;
      lists = lists;
      came = λ k within.
          let near : k < length other.stripes = omega (arith, within, many) in
          let its : AreFacts one.plan (facts_at one.stripes k) = over.are k no_facts within in
          let its_then : AreFacts one.plan (facts_at other.stripes k) = are_then k no_facts near in
          let stripes : (facts_at one.stripes k).stripe ≡ (facts_at other.stripes k).stripe = stripe_same determined one.plan valid one.lists (trees_of one.folders) before.opener.vault.files one.stripes other.stripes over.are are_then
          over.no_gifts over_then.no_gifts numbers came came_then k within in
          record {
            slots = ext_get_or no_slot (facts_at one.stripes k).slots (facts_at other.stripes k).slots (its.slots ∙ sym its_then.slots) (λ d below.
                let here : d < length one.loaded.columns = omega (arith, below, its.slots, wide) in
                let there : d < length other.loaded.columns = omega (arith, here, wide_then) in
                slot_checked mode before exit status hold.tells.tells_folders well one has k d within here
                ∙ held_same one.loaded other.loaded one.lists other.lists (trees_of one.folders) (trees_of other.folders) d (facts_at one.stripes k).stripe (facts_at other.stripes k).stripe loaded lists trees stripes
                ∙ sym (slot_checked mode before_then exit_then status_then hold.tells_then.tells_folders well_then other has_then k d near there));
            levels = levels_same determined one.plan valid one.lists (trees_of one.folders) before.opener.vault.files one.stripes other.stripes over.are are_then over.no_gifts over_then.no_gifts numbers came came_then k within;
          };
    }
