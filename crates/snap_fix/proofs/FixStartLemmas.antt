-- A fix begins: no file was written, and the files of the records that aren't blocked may be.
use Rattle.std.proofs.Common.{◌≡◌, ℕ, zero, suc, ◌<◌, List, [], ◌∷◌, length, map, get_or, IsTrue, true, false, refl, sym, ap, ◌∙◌, subst, arith}
use Rattle.std.specs.List.{range_with_len}
use Rattle.std.specs.Option.{option_map}
use Rattle.std.proofs.lemmas.List.{get_or-map, length-map}
use Rattle.std.proofs.lemmas.List.FromFn.{length-range_with_len, get_or-range_with_len, length-map-range_with_len, get_or-map-range_with_len}
use Rattle.std.proofs.lemmas.List.Kept.{AllPairs-filter}
use Rattle.disk_model.specs.Folder.{FolderView, IsFolder, quiet_folder-is_folder}
use Rattle.disk_model.specs.Tree.{Tree, file_of, listing_of, meta_of}
use Rattle.folder_listing.specs.Kept.{ListedFile}
use Rattle.folder_listing.specs.Listings.{Lists, ListsAll}
use Rattle.file_table.specs.Table.{Record, TableValue, no_record, records_in}
use Rattle.array_setup.specs.declared.ways.Selection.{Selection}
use Rattle.stripe_reader.specs.Columns.{folder_at}
use Rattle.stripe_reader.specs.Starts.{StartsFit, StartsValue, no_start, starts_at}
use Rattle.stripe_reader.specs.declared.starts.Start.{Start}
use Rattle.snap_fix.specs.declared.beginning.Work.{Work}
use Rattle.repair_scope.specs.declared.entry.Entry.{Entry}
use Rattle.repair_scope.specs.declared.scope.Mode.{Mode}
use Rattle.repair_scope.specs.declared.scope.Scope.{Scope}
use Rattle.file_restorer.specs.declared.state.FileState.{FileState}
use Rattle.snap_fix.specs.Beginning.{Begins}
use Rattle.snap_fix.specs.Checking.{plan_for}
use Rattle.snap_fix.specs.FixCourse.{AreOpen}
use Rattle.snap_fix.specs.FixRun.{AreAscending}
use Rattle.snap_fix.specs.Mended.{column_writes, writes_of}
use Rattle.file_restorer.specs.Mending.{StatesFit}
use Rattle.repair_scope.specs.Blocked.{found_in, is_blocked}
use Rattle.stripe_examiner.specs.Place.{start_of, column_starts, starts_of}
use Rattle.repair_scope.specs.Plan.{FixPlan, column_entries, entries_of, entry_at, entry_in, entry_of, is_looked_at, no_entry, plan_of, stripes_of}
use Rattle.file_restorer.specs.State.{HoldsColumn, first_state, first_states, no_state, record_path}
use Rattle.snap_fix.specs.Underway.{AreFixable, AreUnderway}
use Rattle.file_restorer.proofs.OrderLemmas.{writes_none}
use Rattle.snap_fix.proofs.CourseLemmas.{starts_fit}
use Rattle.snap_fix.proofs.FixTreeLemmas.{found_tree, free_of, untouched}
use Rattle.file_restorer.proofs.FolderCallLemmas.{some_none}

-- ---- the stripes

range_ascending : (n : ℕ) → AreAscending (range_with_len 0 n)
range_ascending n i j d less below =
    let near : j < n = omega (arith, below, length-range_with_len 0 n) in
    let earlier : i < n = omega (arith, less, near) in
    let first = get_or-range_with_len 0 n i d earlier in
    let second = get_or-range_with_len 0 n j d near in
    omega (arith, first, second, less)

-- the stripes are looked at in ascending order
pub stripes_ascending : (plan : FixPlan) → AreAscending (stripes_of plan)
stripes_ascending plan = AllPairs-filter (λ (a b : ℕ). a < b) (is_looked_at plan) (range_with_len 0 (length plan.table.infos)) (range_ascending (length plan.table.infos))

-- ---- the folders

-- what folders tell is well formed
pub folders_formed : {F : Type 0} (view : F → FolderView) → ((folder : F) → IsFolder (view folder)) → (folders : List F) (d : ℕ) → IsFolder (folder_at (map view folders) d)
folders_formed view formed [] d = quiet_folder-is_folder 0 false
folders_formed view formed (folder ∷ folders) zero = formed folder
folders_formed view formed (folder ∷ folders) (suc d) = folders_formed view formed folders d

-- what was listed is what the folder tells then
listed_now : (old mid : FolderView) (files : List ListedFile) → Lists old mid files → IsTrue mid.tells → files ≡ listing_of mid.tree
listed_now old mid files lists told =
    let before : IsTrue old.tells = subst IsTrue lists.call.called.goes_on.tells told in
    lists.found before ∙ ap listing_of (sym (lists.call.tree before))

-- ---- the states

-- there is a state for each record
pub states_fit : (table : TableValue) (starts : StartsValue) → StartsFit table starts → StatesFit table (first_states starts)
states_fit table starts fit = record {
  columns = length-map starts.columns (λ (column : List Start). map first_state column) ∙ fit.columns;
  records = λ d within.
      ap length (get_or-map (λ (column : List Start). map first_state column) starts.columns d [] [] (omega (arith, within, fit.columns)))
      ∙ length-map (starts_at starts.columns d) first_state ∙ fit.records d within;
}

-- ---- one column

module _ (table : TableValue) (lists : List (List ListedFile)) (d : ℕ) (within : d < length table.columns) where
  abbrev records : List Record
  records = records_in table d

  abbrev files : List ListedFile
  files = get_or lists d []

  abbrev start_column : List Start
  start_column = starts_at (starts_of table lists).columns d

  abbrev state_column : List FileState
  state_column = get_or (first_states (starts_of table lists)) d []

  entry_begun : (selection : Selection) (names : List (List ℕ)) (i : ℕ) → i < length records
      → entry_in (entries_of selection names table lists) d i ≡ entry_of selection (get_or names d []) files (get_or records i no_record)
  entry_begun selection names i below =
      ap (λ (entries : List Entry). get_or entries i no_entry)
      (get_or-map-range_with_len (column_entries selection names table lists) 0 (length table.columns) d d [] within (omega arith))
      ∙ get_or-map (entry_of selection (get_or names d []) files) records i no_record no_entry below

  starts_are : start_column ≡ column_starts table lists d
  starts_are = get_or-map-range_with_len (column_starts table lists) 0 (length table.columns) d d [] within (omega arith)

  start_begun : (i : ℕ) → i < length records → get_or start_column i no_start ≡ start_of files (record_path records i)
  start_begun i below =
      ap (λ (column : List Start). get_or column i no_start) starts_are
      ∙ get_or-map (λ (kept : Record). start_of files kept.path) records i no_record no_start below

  states_are : state_column ≡ map first_state start_column
  states_are = get_or-map (λ (column : List Start). map first_state column) (starts_of table lists).columns d [] [] (omega (arith, within, (starts_fit table lists).columns))

  state_begun : (i : ℕ) → i < length records → get_or state_column i no_state ≡ first_state (start_of files (record_path records i))
  state_begun i below =
      ap (λ (column : List FileState). get_or column i no_state) states_are
      ∙ get_or-map first_state start_column i no_start no_state (omega (arith, below, (starts_fit table lists).records d within))
      ∙ ap first_state (start_begun i below)

  -- nothing was done to the files of a column
  column_begun : (plan : FixPlan) (tree : Tree) → files ≡ listing_of tree → HoldsColumn records start_column state_column (column_writes plan [] d (length records)) tree tree
  column_begun plan tree listed = record {
    starts_are = (starts_fit table lists).records d within;
    states_are = ap length states_are ∙ length-map start_column first_state ∙ (starts_fit table lists).records d within;
    writes_are = length-map-range_with_len (writes_of plan [] d) 0 (length records);
    each = λ i below.
        let path = record_path records i in
        let same : start_of files path ≡ start_of (listing_of tree) path = ap (λ (fs : List ListedFile). start_of fs path) listed in
        untouched tree path (get_or start_column i no_start) (get_or state_column i no_state) (get_or (column_writes plan [] d (length records)) i [])
        (start_begun i below ∙ same) (state_begun i below ∙ ap first_state same)
        (get_or-map-range_with_len (writes_of plan [] d) 0 (length records) i i [] below (omega arith));
    others = λ name none. refl;
  }

-- ---- all columns

module _ (selection : Selection) (names : List (List ℕ)) (table : TableValue) (lists : List (List ListedFile)) (scope : Scope) (entries : List (List Entry))
    (olds mids : List FolderView) (folders_are : length olds ≡ length table.columns) (lists_all : ListsAll olds mids lists) where
  one_listed : (d : ℕ) → d < length table.columns → Lists (folder_at olds d) (folder_at mids d) (get_or lists d [])
  one_listed d within = lists_all.each d (omega (arith, within, folders_are))

  told_listing : (d : ℕ) → d < length table.columns → IsTrue (folder_at mids d).tells → get_or lists d [] ≡ listing_of (folder_at mids d).tree
  told_listing d within told = listed_now (folder_at olds d) (folder_at mids d) (get_or lists d []) (one_listed d within) told

  -- the files that aren't blocked may be written
  pub fixable : entries ≡ entries_of selection names table lists → AreOpen table olds → ((d : ℕ) → IsFolder (folder_at mids d)) → AreFixable (plan_of scope table entries) mids
  fixable entries_are are_open formed d within = record {
    is_open = λ some. (one_listed d within).call.called.goes_on.closed ∙ are_open d (omega (arith, within, folders_are)) some;
    is_tree = (formed d).tree;
    free = λ told i below unblocked.
        let path = record_path (records_in table d) i in
        free_of (folder_at mids d).tree path
        (ap (λ (files : List ListedFile). is_blocked files path) (sym (told_listing d within told))
        ∙ sym (ap (λ (entry : Entry). entry.blocked) (entry_begun table lists d within selection names i below))
        ∙ sym (ap (λ (all : List (List Entry)). (entry_in all d i).blocked) entries_are)
        ∙ unblocked);
  }

  -- what is known of a file is what its folder tells of it
  pub listed_of : entries ≡ entries_of selection names table lists → (d : ℕ) → d < length table.columns → IsTrue (folder_at mids d).tells → (i : ℕ) → i < length (records_in table d)
      → (entry_in entries d i).listed ≡ option_map meta_of (file_of (folder_at mids d).tree (record_path (records_in table d) i))
  listed_of entries_are d within told i below =
      let path = record_path (records_in table d) i in
      ap (λ (all : List (List Entry)). (entry_in all d i).listed) entries_are
      ∙ ap (λ (entry : Entry). entry.listed) (entry_begun table lists d within selection names i below)
      ∙ ap (λ (files : List ListedFile). found_in files path) (told_listing d within told)
      ∙ found_tree (folder_at mids d).tree path

  underway_first : AreUnderway (plan_of scope table entries) [] mids mids (starts_of table lists) (first_states (starts_of table lists))
  underway_first = record {
    folders = refl;
    each = λ d within. record {
      calls = some_none (folder_at mids d);
      holds = λ told. column_begun table lists d within (plan_of scope table entries) (folder_at mids d).tree (told_listing d within told);
      lost = λ i below. ap (λ (state : FileState). state.lost) (state_begun table lists d within i below);
      sizes = λ i below.
          ap (λ (state : FileState). state.size) (state_begun table lists d within i below) ∙ sym (ap (λ (start : Start). start.size) (start_begun table lists d within i below));
      wrote = λ i below some. let clash : false ≡ true = some in absurd cc;
      touched = λ told i below. ap (λ (state : FileState). state.touched) (state_begun table lists d within i below);
      ordered = λ told. writes_none (folder_at mids d);
    };
  }

  -- nothing was done so far
  pub underway_begun : (starts : StartsValue) (states : List (List FileState)) → starts ≡ starts_of table lists → states ≡ first_states starts
      → AreUnderway (plan_of scope table entries) [] mids mids starts states
  underway_begun starts states starts_are states_are =
      subst (λ (s : List (List FileState)). AreUnderway (plan_of scope table entries) [] mids mids starts s) (sym states_are)
      (subst (λ (s : StartsValue). AreUnderway (plan_of scope table entries) [] mids mids s (first_states s)) (sym starts_are) underway_first)

-- ---- what a fix begins with

module _ (mode : Mode) (selection : Selection) (names : List (List ℕ)) (table : TableValue) (work : Work) (olds mids : List FolderView)
    (begun : Begins mode selection names table work olds mids) (folders_are : length olds ≡ length table.columns) where
  pub work_ascending : AreAscending work.stripes.items
  work_ascending = subst AreAscending (sym begun.stripes) (stripes_ascending (plan_for table work))

  pub work_fixable : AreOpen table olds → ((d : ℕ) → IsFolder (folder_at mids d)) → AreFixable (plan_for table work) mids
  work_fixable are_open formed = fixable selection names table begun.lists work.scope work.entries olds mids folders_are begun.listed begun.entries are_open formed

  pub work_listed : (d : ℕ) → d < length table.columns → IsTrue (folder_at mids d).tells → (i : ℕ) → i < length (records_in table d)
      → (entry_at (plan_for table work) d i).listed ≡ option_map meta_of (file_of (folder_at mids d).tree (record_path (records_in table d) i))
  work_listed = listed_of selection names table begun.lists work.scope work.entries olds mids folders_are begun.listed begun.entries

  pub work_underway : (states : List (List FileState)) → states ≡ first_states work.starts → AreUnderway (plan_for table work) [] mids mids work.starts states
  work_underway states states_are = underway_begun selection names table begun.lists work.scope work.entries olds mids folders_are begun.listed work.starts states begun.starts states_are

  pub begun_underway : AreUnderway (plan_for table work) [] mids mids (starts_of table begun.lists) (first_states (starts_of table begun.lists))
  begun_underway = underway_first selection names table begun.lists work.scope work.entries olds mids folders_are begun.listed
