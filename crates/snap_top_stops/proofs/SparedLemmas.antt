-- A fix of missing files leaves the cells of each file alone that stands.
use Rattle.std.proofs.Common.{◌≡◌, ◌≢◌, inl, inr, ℕ, ◌<◌, ◌&&◌, ◌||◌, not, List, [], length, get_or, Bool, true, false, IsTrue, Option, None, Some, is_some, refl, sym, ap, ap₂, ◌∙◌, subst, arith, append-nil}
use Rattle.std.specs.Prelude.{Contains}
use Rattle.std.specs.List.{range_with_len}
use Rattle.std.specs.Option.{option_map}
use Rattle.std.proofs.lemmas.List.{get_or-map, get_or_default, length-map}
use Rattle.std.proofs.lemmas.List.Folds.{list_any_at}
use Rattle.std.proofs.lemmas.List.FromFn.{get_or-map-range_with_len, get_or-range_with_len, length-range_with_len}
use Rattle.folder_listing.specs.Kept.{ListedFile}
use Rattle.disk_model.specs.Folder.{FolderView}
use Rattle.disk_model.specs.Opener.{folder_held}
use Rattle.disk_model.specs.Tree.{File, Tree, file_of, listing_of, meta_of, path_of}
use Rattle.disk_model.specs.Vault.{VaultView, copies_of}
use Rattle.disk_model.specs.declared.meta.Meta.{Meta}
use Rattle.content_file.specs.Load.{Loads}
use Rattle.file_restorer.specs.Mending.{cell_path}
use Rattle.file_table.specs.Table.{Record, TableValue, info_at, no_record, record_at, records_in}
use Rattle.file_table.specs.declared.block.Cell.{Cell}
use Rattle.snap_config.specs.declared.options.Command.TheVariants as commands
use Rattle.array_setup.specs.declared.ways.Selection.{Selection}
use Rattle.snap_exercise.proofs.UndamagedLemmas.{found_tree}
use Rattle.snap_fix.specs.Fixing.{facts_of}
use Rattle.snap_fix.specs.Stopped.{file_or, file_placed}
use Rattle.snap_sync.specs.Part.{tree_at}
use Rattle.stripe_examiner.specs.Facts.{StripeFacts}
use Rattle.stripe_examiner.specs.Looking.{no_facts, numbers_of}
use Rattle.repair_scope.specs.Blocked.{found_in}
use Rattle.repair_scope.specs.Plan.{FixPlan, cell_at, column_entries, entries_of, entry_at, entry_in, entry_of, has_selected, has_selected_cell, has_selected_level, is_in_scope, is_looked_at, names_of, no_entry, selects_cell, stripes_of}
use Rattle.repair_scope.specs.Selected.{selects}
use Rattle.repair_scope.specs.declared.entry.Entry.{Entry as PlanEntry}
use Rattle.snap_top.specs.Unbroken.{NothingRose}
use Rattle.snap_top.specs.Fix.{FixRun, FixesOver}
use Rattle.snap_top.specs.Began.{IsFixOf}
use Rattle.snap_top.specs.Entry.{Entry, Exit}
use Rattle.snap_top.specs.Spared.{IsLeftAlone, SparesRest}
use Rattle.snap_top.specs.Standing.{BeginsOver, Standing}
use Rattle.snap_top.specs.Sync.{IsFirstContent}
use Rattle.snap_top.specs.Views.{folder_at}
use Rattle.snap_top.proofs.AskedLemmas.{command_asked, unfailed}
use Rattle.snap_top.proofs.KeptLemmas.{kept_in}
use Rattle.snap_top.proofs.RestoredLastLemmas.{tree_of_folder}
use Rattle.snap_top.proofs.ResumeLemmas.{begins_same}
use Rattle.snap_top.proofs.SyncedLemmas.{OneTable}
use Rattle.snap_top_histories.specs.Lived.{AskForFix}
use Rattle.snap_top_instances.specs.Asked.{AsksFor}
use Rattle.snap_top_stops.specs.Stopped.{HasStripe, IsCellAt, SparesOne, missing_alone}
use Rattle.snap_top_instances.proofs.SmoothLemmas.{first_content}

-- as many folders begin as trees stand, and each holds its tree
pub as_many_trees : (standing : Standing) (before : Entry) → BeginsOver standing before → length before.opener.folders ≡ length standing.trees
as_many_trees standing before over = sym (length-map before.opener.folders (λ (folder : FolderView). folder.tree)) ∙ ap (λ (trees : List Tree). length trees) over.trees

pub tree_held : (standing : Standing) (before : Entry) → BeginsOver standing before → (d : ℕ) → (folder_held before.opener d).tree ≡ tree_at standing.trees d
tree_held standing before over d = sym (tree_of_folder before.opener.folders d) ∙ ap (λ (trees : List Tree). tree_at trees d) over.trees

-- the name of a file that has no lost block
pub plain_file : (tree : Tree) (path name : List ℕ) → path ≡ name → file_of tree (path_of path false) ≡ file_of tree name
plain_file tree path name is = ap (λ (it : List ℕ). file_of tree it) (append-nil path ∙ is)

-- ---- what is selected where missing files alone are meant

and_none : (b : Bool) → (b && false) ≡ false
and_none true = refl
and_none false = refl

-- just the records of which no file is listed
selected_by : (name : List ℕ) (kept : Record) (found : Option Meta) → selects missing_alone name kept found ≡ not (is_some found)
selected_by name kept None = refl
selected_by name kept (Some meta) = refl

some_listed : (held : Option File) → is_some (option_map meta_of held) ≡ is_some held
some_listed None = refl
some_listed (Some file) = refl

entry_is : (selection : Selection) (names : List (List ℕ)) (table : TableValue) (lists : List (List ListedFile)) (d i : ℕ) → d < length table.columns → i < length (records_in table d)
    → entry_in (entries_of selection names table lists) d i ≡ entry_of selection (get_or names d []) (get_or lists d []) (record_at table.columns d i)
entry_is selection names table lists d i column within =
    ap (λ (entries : List PlanEntry). get_or entries i no_entry) (get_or-map-range_with_len (column_entries selection names table lists) 0 (length table.columns) d d [] column (omega arith))
    ∙ get_or-map (entry_of selection (get_or names d []) (get_or lists d [])) (records_in table d) i no_record no_entry within

-- so the record of a cell is selected just where no file stands
entry_selected : (copies : ℕ) (vault : VaultView) (fix : FixRun) (stripe d : ℕ) (path : List ℕ) (tree : Tree) → FixesOver copies vault fix → fix.selection ≡ missing_alone
    → (place : IsCellAt fix.plan.table stripe d path) → get_or fix.lists d [] ≡ listing_of tree → (entry_at fix.plan d place.cell.rec).selected ≡ not (is_some (file_of tree path))
entry_selected copies vault fix stripe d path tree over selection_is place listed =
    let names : List (List ℕ) = names_of fix.setup in
    let table : TableValue = fix.plan.table in
    let kept : Record = record_at table.columns d place.cell.rec in
    let entries : fix.plan.entries ≡ entries_of missing_alone names table fix.lists
    = over.plan_is.entries ∙ ap₂ (λ (selection : Selection) (t : TableValue). entries_of selection names t fix.lists) selection_is (sym over.plan_is.table_is) in
    let found : found_in (get_or fix.lists d []) kept.path ≡ option_map meta_of (file_of tree path)
    = ap₂ (λ (files : List ListedFile) (name : List ℕ). found_in files name) listed place.path_is ∙ found_tree tree path in
    ap (λ (all : List (List PlanEntry)). (entry_in all d place.cell.rec).selected) entries
    ∙ ap (λ (entry : PlanEntry). entry.selected) (entry_is missing_alone names table fix.lists d place.cell.rec place.column place.within)
    ∙ selected_by (get_or names d []) kept (found_in (get_or fix.lists d []) kept.path)
    ∙ ap (λ (meta : Option Meta). not (is_some meta)) found
    ∙ ap (λ (some : Bool). not some) (some_listed (file_of tree path))

-- each folder was listed as it stood
listed_as : (standing : Standing) (before : Entry) (exit : Exit) (fix : FixRun) → BeginsOver standing before → IsFixOf before exit fix → (d : ℕ) → d < length fix.plan.table.columns
    → (d < length standing.trees) × (get_or fix.lists d [] ≡ listing_of (tree_at standing.trees d))
listed_as standing before exit fix over is d column =
    let columns : length fix.plan.table.columns ≡ length fix.loaded.columns = ap (λ (t : TableValue). length t.columns) is.over.plan_is.table_is in
    let count : length fix.folders ≡ length before.opener.folders = ap (λ (fs : List FolderView). length fs) is.folders_are in
    let inside : d < length fix.folders = omega (arith, column, columns, is.over.columns) in
    let within : d < length before.opener.folders = omega (arith, inside, count) in
    let tells : IsTrue (folder_at fix.folders d).tells = subst (λ (fs : List FolderView). IsTrue (folder_at fs d).tells) (sym is.folders_are) (over.tells.tells_folders d within) in
    let tree_is : (folder_at fix.folders d).tree ≡ tree_at standing.trees d = ap (λ (fs : List FolderView). (folder_at fs d).tree) is.folders_are ∙ tree_held standing before over d in
    (omega (arith, within, as_many_trees standing before over), (is.over.listed.each d inside).found tells ∙ ap (λ (t : Tree). listing_of t) tree_is)

-- ---- a stripe that is looked at

-- one that has a selected cell is
looked_at : (plan : FixPlan) (stripe d : ℕ) → stripe < length plan.table.infos → d < length plan.table.columns → selects_cell plan stripe d ≡ true → Contains (stripes_of plan) stripe
looked_at plan stripe d inside column selected =
    let n : ℕ = length plan.table.infos in
    let many : ℕ = length plan.table.columns in
    let at : get_or (range_with_len 0 n) stripe stripe ≡ stripe = get_or-range_with_len 0 n stripe stripe inside ∙ omega arith in
    let at_column : get_or (range_with_len 0 many) d d ≡ d = get_or-range_with_len 0 many d d column ∙ omega arith in
    let some : has_selected_cell plan stripe ≡ true
    = list_any_at (selects_cell plan stripe) (range_with_len 0 many) d d (omega (arith, column, length-range_with_len 0 many)) (ap (λ (k : ℕ). selects_cell plan stripe k) at_column ∙ selected) in
    kept_in (is_looked_at plan) (range_with_len 0 n) stripe (stripe, omega (arith, inside, length-range_with_len 0 n), at) (ap (λ (b : Bool). b || has_selected_level plan stripe) some)

-- and there are facts of it
facts_at_number : (stripes : List StripeFacts) (stripe : ℕ) → Contains (numbers_of stripes) stripe → (facts : StripeFacts) × (facts.stripe ≡ stripe) × Contains stripes facts
facts_at_number stripes stripe among =
    let within : among.0 < length stripes = omega (arith, among.1, length-map stripes (λ (of : StripeFacts). of.stripe)) in
    let facts : StripeFacts = get_or stripes among.0 no_facts in
    (facts, sym (get_or-map (λ (of : StripeFacts). of.stripe) stripes among.0 no_facts stripe within) ∙ among.2, (among.0, within, get_or_default stripes among.0 facts no_facts within))

-- ---- a cell that is left alone

-- each cell of a record that is not selected
cell_alone : (fix : FixRun) (stripe d : ℕ) (path : List ℕ) → (place : IsCellAt fix.plan.table stripe d path) → (entry_at fix.plan d place.cell.rec).selected ≡ false → IsLeftAlone fix d place.cell
cell_alone fix stripe d path place not_selected = record {
  column = place.column;
  within = place.within;
  alone = λ facts one is. inl (inr (
      ap (λ (cell : Option Cell). is_in_scope fix.plan facts.stripe && has_selected fix.plan d cell) is
      ∙ ap (λ (b : Bool). is_in_scope fix.plan facts.stripe && b) not_selected
      ∙ and_none (is_in_scope fix.plan facts.stripe)));
}

-- a file under PATH is the one in the place of PATH
in_place : (tree : Tree) (path : List ℕ) (file : File) → file_of tree path ≡ Some file → file_placed tree path ≡ Some file
in_place tree path file is = ap (λ (held : Option File). file_or held (file_of tree (path_of path true))) (plain_file tree path path refl ∙ is)

some_file : (held : Option File) → held ≢ None → (file : File) × (held ≡ Some file)
some_file None there = absurd (there refl)
some_file (Some file) there = (file, refl)

same_selection : (one other : Selection) → commands.Fix one ≡ commands.Fix other → one ≡ other
same_selection one other is = cc

-- the table that a run began with has these cells in its plan
pub planned_at : (fix : FixRun) (before : Entry) (exit : Exit) (table : TableValue) (stripe d : ℕ) (path : List ℕ) → OneTable → IsFixOf before exit fix → NothingRose before exit
    → IsFirstContent (copies_of before.opener.vault) before.opener.vault.files table → IsCellAt table stripe d path → IsCellAt fix.plan.table stripe d path
planned_at fix before exit table stripe d path one_table is well content place =
    let loaded_is : fix.loaded ≡ table
    = begins_same one_table fix.setup before.seed (copies_of before.opener.vault) before.opener.vault.files fix.loaded table (is.loading.from (unfailed before exit is.loading well)) (inl content) in
    subst (λ (t : TableValue). IsCellAt t stripe d path) (sym (is.over.plan_is.table_is ∙ loaded_is)) place

-- a loaded table has a stripe of both files
pub stripe_loaded : (old new : VaultView) (loaded : Option TableValue) (table : TableValue) (stripe d : ℕ) (path name : List ℕ) → IsTrue old.tells → Loads old new loaded → loaded ≡ Some table
    → new.faults ≡ 0 → IsCellAt table stripe d path → IsCellAt table stripe 0 name → HasStripe old stripe d path name
stripe_loaded old new loaded table stripe d path name tells loads is calm kept lost =
    record { table = table; content = first_content old new table tells (subst (λ (it : Option TableValue). Loads old new it) is loads) calm; kept = kept; lost = lost }

-- what the words ask for
abbrev pub AsksMissing : List (List ℕ) → Type 0
AsksMissing texts = AsksFor (commands.Fix missing_alone) texts

pub fix_asked : (texts : List (List ℕ)) → AsksMissing texts → AskForFix texts
fix_asked texts asks = record { asked = asks.asked; selection = missing_alone; words = asks.words; command_is = asks.command_is }

-- In a stripe of a file that is missing, a fix of missing files leaves the cell of a file alone that stands.
pub spares_one : (standing next : Standing) (fix : FixRun) (before : Entry) (exit : Exit) (stripe d : ℕ) (path name : List ℕ) → BeginsOver standing before → IsFixOf before exit fix
    → AsksMissing before.texts → numbers_of (facts_of fix.stripes) ≡ stripes_of fix.plan → IsCellAt fix.plan.table stripe d path → IsCellAt fix.plan.table stripe 0 name
    → file_of (tree_at standing.trees d) path ≢ None → file_of (tree_at standing.trees 0) name ≡ None → SparesRest fix standing.trees next.trees standing.files next.files → SparesOne fix standing next
spares_one standing next fix before exit stripe d path name over is asks numbers kept lost there gone spares =
    let copies : ℕ = copies_of before.opener.vault in
    let vault : VaultView = before.opener.vault in
    let tree : Tree = tree_at standing.trees d in
    let command_is : commands.Fix fix.selection ≡ commands.Fix missing_alone
    = command_asked before over.tells.tells asks.asked asks.words (commands.Fix fix.selection) is.readers fix.setup is.configured ∙ asks.command_is in
    let selection_is : fix.selection ≡ missing_alone = same_selection fix.selection missing_alone command_is in
    let listed = listed_as standing before exit fix over is d kept.column in
    let listed_first = listed_as standing before exit fix over is 0 lost.column in
    let only_bad : fix.plan.scope.only_bad ≡ false = is.over.plan_is.scope.only_bad ∙ ap (λ (selection : Selection). selection.errors) selection_is in
    let selected : (entry_at fix.plan 0 lost.cell.rec).selected ≡ true
    = entry_selected copies vault fix stripe 0 name (tree_at standing.trees 0) is.over selection_is lost listed_first.1 ∙ ap (λ (held : Option File). not (is_some held)) gone in
    let selects_lost : selects_cell fix.plan stripe 0 ≡ true
    = ap₂ (λ (bad : Bool) (cell : Option Cell). (not bad || (info_at fix.plan.table.infos stripe).bad) && has_selected fix.plan 0 cell) only_bad lost.cell_is ∙ selected in
    let one = facts_at_number (facts_of fix.stripes) stripe
    (subst (λ (ns : List ℕ). Contains ns stripe) (sym numbers) (looked_at fix.plan stripe 0 lost.inside lost.column selects_lost)) in
    let file = some_file (file_of tree path) there in
    let not_selected : (entry_at fix.plan d kept.cell.rec).selected ≡ false
    = entry_selected copies vault fix stripe d path tree is.over selection_is kept listed.1 ∙ ap (λ (held : Option File). not (is_some held)) file.1 in
    let alone : IsLeftAlone fix d kept.cell = cell_alone fix stripe d path kept not_selected in
    let placed : file_placed tree (cell_path fix.plan.table d kept.cell) ≡ Some file.0 = ap (λ (it : List ℕ). file_placed tree it) kept.path_is ∙ in_place tree path file.0 file.1 in
    record {
      disk = d;
      facts = one.0;
      cell = kept.cell;
      file = file.0;
      below = listed.0;
      looked_at = one.2;
      cell_is = ap (λ (number : ℕ). cell_at fix.plan number d) one.1 ∙ kept.cell_is;
      alone = alone;
      there = placed;
      kept = spares.cells d listed.0 kept.cell file.0 alone placed;
    }
