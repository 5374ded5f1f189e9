-- What the engines say of the array, without what they told.
use Rattle.std.proofs.Common.{◌≡◌, ◌↔◌, ℕ, zero, suc, ◌<◌, List, [], ◌∷◌, length, map, get_or, false, Bool, IsTrue, refl, sym, ap, ◌∙◌, subst, arith}
use Rattle.std.proofs.lemmas.List.{get_or-map, length-map}
use Rattle.std.proofs.lemmas.List.Elements.{All-map}
use Rattle.std.proofs.lemmas.List.FromFn.{length-range_with_len}
use Rattle.disk_calm.specs.Calm.{CalmValue, calm_folder_view, calm_view_of, fresh_calm_vault}
use Rattle.disk_calm.specs.declared.folder.CalmFolder.{CalmFolder}
use Rattle.disk_model.specs.Folder.{FolderView}
use Rattle.disk_model.specs.Sink.{SinkView}
use Rattle.disk_model.specs.Tree.{Tree}
use Rattle.file_table.specs.Table.{TableValue}
use Rattle.array_setup.specs.Setup.{SetupValue}
use Rattle.array_setup.specs.declared.ways.Selection.{Selection}
use Rattle.array_setup.specs.declared.ways.SyncWay.{SyncWay}
use Rattle.snap_exercise.specs.Exercised.{Array, IsChecked, IsCourse, IsExercise, IsFixed, IsSynced, NoneFailed, array_of, damaged, everything, summary_of, way}
use Rattle.snap_exercise.specs.Generated.{columns, first_table, moment, setup, standing, tree_of, trees}
use Rattle.snap_fix.specs.Course.{Checks, outside as repair_outside}
use Rattle.snap_fix.specs.FixCourse.{AreOpen, Fixes}
use Rattle.snap_fix.specs.declared.checks.FixEnd.{FixEnd}
use Rattle.snap_report.specs.Report.{ReportView}
use Rattle.snap_report.specs.declared.events.Event.{Event}
use Rattle.snap_report.specs.declared.pages.Lines.{Lines}
use Rattle.snap_sync.specs.Course.{Syncs, outside}
use Rattle.snap_sync.specs.Part.{trees_of}
use Rattle.snap_sync.specs.declared.syncing.SyncEnd.{SyncEnd}
use Rattle.snap_sync.proofs.LeftLemmas.{columns_closed_by}
use Rattle.snap_sync.proofs.PartLemmas.{length-layout}
use Rattle.snap_sync.proofs.SeenLemmas.{shape_closed}
use Rattle.folder_listing.specs.Kept.{kept_lists}
use Rattle.repair_scope.specs.Plan.{names_of}
use Rattle.stripe_examiner.specs.Spare.{nothing}
use Rattle.repair_scope.specs.declared.scope.Mode.TheVariants.{Check, Fix}
use Rattle.stripe_reader.specs.Columns.{folder_at}

module _ {W R : Type 0} (view : W → SinkView) (standing_of : R → ReportView) (stands : R → List Event → Type 0)
    (folders folders_new : List FolderView) (vault vault_new : CalmValue) (lines lines_new : Lines W) (reports reports_new : List R) where
  synced_of : (end : SyncEnd) → Syncs view standing_of stands setup way first_table moment (outside folders (calm_view_of vault) lines reports) (outside folders_new (calm_view_of vault_new) lines_new reports_new) end
      → IsSynced (array_of folders vault) (array_of folders_new vault_new) end
  synced_of end done = record {
    start = done.start;
    listed = done.listed;
    laid = done.laid;
    readings = done.ends.readings;
    all = done.ends.all;
    reads = done.ends.course.reads;
    vault = done.ends.course.vault;
    table_is = done.ends.table_is;
    saved = done.ends.saved;
    parity = done.ends.parity;
    no_draft = done.ends.no_draft;
    synced = done.ends.synced;
    pending = done.ends.pending;
    findings = done.ends.findings;
  }

  pub synced_by : (s : SetupValue) (w : SyncWay) (t : TableValue) (end : SyncEnd) → s ≡ setup → w ≡ way → t ≡ first_table
      → Syncs view standing_of stands s w t moment (outside folders (calm_view_of vault) lines reports) (outside folders_new (calm_view_of vault_new) lines_new reports_new) end
      → IsSynced (array_of folders vault) (array_of folders_new vault_new) end
  synced_by s w t end s_is w_is t_is done = synced_of end
      (subst (λ (x : SetupValue). Syncs view standing_of stands x way first_table moment (outside folders (calm_view_of vault) lines reports) (outside folders_new (calm_view_of vault_new) lines_new reports_new) end) s_is
      (subst (λ (x : SyncWay). Syncs view standing_of stands s x first_table moment (outside folders (calm_view_of vault) lines reports) (outside folders_new (calm_view_of vault_new) lines_new reports_new) end) w_is
      (subst (λ (x : TableValue). Syncs view standing_of stands s w x moment (outside folders (calm_view_of vault) lines reports) (outside folders_new (calm_view_of vault_new) lines_new reports_new) end) t_is done)))

  fixed_of : (table : TableValue) (end : FixEnd) → Fixes view standing_of stands Fix everything (names_of setup) table (repair_outside folders (calm_view_of vault) nothing lines reports) (repair_outside folders_new (calm_view_of vault_new) nothing lines_new reports_new) end
      → IsFixed table (array_of folders vault) (array_of folders_new vault_new) end
  fixed_of table end done = record {
    lists = done.lists;
    mids = done.mids;
    as_many = done.as_many;
    listed = done.listed;
    plan = done.plan;
    plan_is = done.plan_is;
    stripes = done.stripes;
    numbers = done.numbers;
    readings = done.readings;
    finds = done.finds;
    spare = done.spare;
    vault = done.vault;
    finishes = done.finishes;
    files = done.files;
    unread = done.unread;
    left = done.left;
    blocks = done.blocks;
    parities = done.parities;
  }

  pub fixed_by : (s : SetupValue) (choice : Selection) (table : TableValue) (end : FixEnd) → s ≡ setup → choice ≡ everything
      → Fixes view standing_of stands Fix choice (names_of s) table (repair_outside folders (calm_view_of vault) nothing lines reports) (repair_outside folders_new (calm_view_of vault_new) nothing lines_new reports_new) end
      → IsFixed table (array_of folders vault) (array_of folders_new vault_new) end
  fixed_by s choice table end s_is choice_is done = fixed_of table end
      (subst (λ (x : SetupValue). Fixes view standing_of stands Fix everything (names_of x) table (repair_outside folders (calm_view_of vault) nothing lines reports) (repair_outside folders_new (calm_view_of vault_new) nothing lines_new reports_new) end) s_is
      (subst (λ (x : Selection). Fixes view standing_of stands Fix x (names_of s) table (repair_outside folders (calm_view_of vault) nothing lines reports) (repair_outside folders_new (calm_view_of vault_new) nothing lines_new reports_new) end) choice_is done))

  checked_of : (table : TableValue) (end : FixEnd) → Checks view standing_of stands Check everything (names_of setup) table (repair_outside folders (calm_view_of vault) nothing lines reports) (repair_outside folders_new (calm_view_of vault_new) nothing lines_new reports_new) end
      → IsChecked table (array_of folders vault) (array_of folders_new vault_new) end
  checked_of table end done = record {
    lists = done.lists;
    mids = done.mids;
    as_many = done.as_many;
    listed = done.listed;
    plan = done.plan;
    plan_is = done.plan_is;
    stripes = done.stripes;
    numbers = done.numbers;
    are = done.are;
    read = done.read;
    levels = done.levels;
    spare = done.spare;
    findings = done.findings;
  }

  pub checked_by : (s : SetupValue) (choice : Selection) (table : TableValue) (end : FixEnd) → s ≡ setup → choice ≡ everything
      → Checks view standing_of stands Check choice (names_of s) table (repair_outside folders (calm_view_of vault) nothing lines reports) (repair_outside folders_new (calm_view_of vault_new) nothing lines_new reports_new) end
      → IsChecked table (array_of folders vault) (array_of folders_new vault_new) end
  checked_by s choice table end s_is choice_is done = checked_of table end
      (subst (λ (x : SetupValue). Checks view standing_of stands Check everything (names_of x) table (repair_outside folders (calm_view_of vault) nothing lines reports) (repair_outside folders_new (calm_view_of vault_new) nothing lines_new reports_new) end) s_is
      (subst (λ (x : Selection). Checks view standing_of stands Check x (names_of s) table (repair_outside folders (calm_view_of vault) nothing lines reports) (repair_outside folders_new (calm_view_of vault_new) nothing lines_new reports_new) end) choice_is done))

-- the table of the sync has the columns and the levels of the first table
pub synced_columns : (old new : Array) (end : SyncEnd) → IsSynced old new end → length end.table.columns ≡ 8
synced_columns old new end done =
    ap (λ (t : TableValue). length t.columns) done.table_is ∙ columns_closed_by done.start moment done.readings done.start
    ∙ ap (λ (t : TableValue). length t.columns) done.laid.start_is ∙ length-layout first_table (kept_lists setup done.laid.lists)

pub synced_levels : (old new : Array) (end : SyncEnd) → IsSynced old new end → end.table.shape.levels ≡ 3
synced_levels old new end done =
    ap (λ (t : TableValue). t.shape.levels) done.table_is ∙ ap (λ shape. shape.levels) (shape_closed done.start moment done.readings done.start)
    ∙ ap (λ (t : TableValue). t.shape.levels) done.laid.start_is

-- a calm folder is open
pub calm_is_open : (table : TableValue) (folders : List CalmFolder) → AreOpen table (map calm_folder_view folders)
calm_is_open table folders d within some = open_at folders d
  where
    open_at : (all : List CalmFolder) (k : ℕ) → (folder_at (map calm_folder_view all) k).closed ≡ false
    open_at [] k = refl
    open_at (folder ∷ all) zero = refl
    open_at (folder ∷ all) (suc k) = open_at all k

-- no call has failed
pub none_failed : (folders : List CalmFolder) (vault : CalmValue) → ((i : ℕ) (d : CalmFolder) → i < length folders → (calm_folder_view (get_or folders i d)).faults ≡ 0) → vault.faults ≡ 0
    → NoneFailed (array_of (map calm_folder_view folders) vault)
none_failed folders vault each none = record {
  folders = All-map (λ (folder : FolderView). folder.faults ≡ 0) calm_folder_view folders (λ k d below. each k d below);
  vault = none;
}

-- ---- the trees of folders

pub same_trees : (folders others : List CalmFolder) → length folders ≡ length others
    → ((i : ℕ) (d : CalmFolder) → i < length folders → (calm_folder_view (get_or folders i d)).tree ≡ (calm_folder_view (get_or others i d)).tree)
    → trees_of (map calm_folder_view folders) ≡ trees_of (map calm_folder_view others)
same_trees [] [] long each = refl
same_trees [] (other ∷ others) long each = absurd (omega (arith, long))
same_trees (folder ∷ folders) [] long each = absurd (omega (arith, long))
same_trees (folder ∷ folders) (other ∷ others) long each = λ i.
    each 0 folder (omega arith) i ∷ same_trees folders others (omega (arith, long)) (λ k d below. each (suc k) d (omega (arith, below))) i

tree_there : (folders : List CalmFolder) (k : ℕ) (folder : CalmFolder) (t : Tree) → k < length folders → folder ≡ get_or folders k folder
    → get_or (trees_of (map calm_folder_view folders)) k t ≡ (calm_folder_view folder).tree
tree_there folders k folder t within is =
    get_or-map (λ (v : FolderView). v.tree) (map calm_folder_view folders) k (calm_folder_view folder) t (omega (arith, within, length-map folders calm_folder_view))
    ∙ ap (λ (v : FolderView). v.tree) (get_or-map calm_folder_view folders k folder (calm_folder_view folder) within) ∙ ap (λ (f : CalmFolder). (calm_folder_view f).tree) (sym is)

pub same_tree_at : (folders others : List CalmFolder) (k : ℕ) (folder other : CalmFolder) → k < length folders → k < length others → folder ≡ get_or folders k folder → other ≡ get_or others k other
    → trees_of (map calm_folder_view folders) ≡ trees_of (map calm_folder_view others) → (calm_folder_view folder).tree ≡ (calm_folder_view other).tree
same_tree_at folders others k folder other within there is also same =
    sym (tree_there folders k folder (calm_folder_view folder).tree within is) ∙ ap (λ (ts : List Tree). get_or ts k (calm_folder_view folder).tree) same
    ∙ tree_there others k other (calm_folder_view folder).tree there also

-- the trees of folders that stand
pub trees_standing : (those : List Tree) → trees_of (map standing those) ≡ those
trees_standing [] = refl
trees_standing (tree ∷ those) = λ i. tree ∷ trees_standing those i

-- ---- all of it

-- so many folders has the array of a number
pub eight_folders : (n : ℕ) (folders : List CalmFolder) → map calm_folder_view folders ≡ map standing (trees n) → length folders ≡ 8
eight_folders n folders first =
    sym (length-map folders calm_folder_view) ∙ ap length first ∙ length-map (trees n) standing ∙ length-map columns (tree_of n) ∙ length-range_with_len 0 8

-- a sync and a fix leave the number of levels
pub levels_synced : (old new : Array) (end : SyncEnd) → IsSynced old new end → new.vault.levels ≡ old.vault.levels
levels_synced old new end done = done.vault.calls.goes_on.levels

pub levels_fixed : (table : TableValue) (old new : Array) (end : FixEnd) → IsFixed table old new end → new.vault.levels ≡ old.vault.levels
levels_fixed table old new end done = done.vault.ran.levels

pub is_course : (n : ℕ) (first mid worn fixed_folders last : List FolderView) (vault vault_synced vault_fixed vault_last : CalmValue) (synced : SyncEnd) (fixed checked : FixEnd)
    → first ≡ map standing (trees n) → vault ≡ fresh_calm_vault 3 1
    → IsSynced (array_of first vault) (array_of mid vault_synced) synced → NoneFailed (array_of mid vault_synced)
    → worn ≡ damaged n mid → IsFixed synced.table (array_of worn vault_synced) (array_of fixed_folders vault_fixed) fixed → NoneFailed (array_of fixed_folders vault_fixed)
    → IsChecked synced.table (array_of fixed_folders vault_fixed) (array_of last vault_last) checked → NoneFailed (array_of last vault_last)
    → IsCourse n synced fixed checked (array_of last vault_last)
is_course n first mid worn fixed_folders last vault vault_synced vault_fixed vault_last synced fixed checked first_is vault_is sync sync_well worn_is fix fix_well check check_well = record {
  after_sync = array_of mid vault_synced;
  after_fix = array_of fixed_folders vault_fixed;
  sync = subst (λ (folders : List FolderView). IsSynced (array_of folders (fresh_calm_vault 3 1)) (array_of mid vault_synced) synced) first_is
      (subst (λ (v : CalmValue). IsSynced (array_of first v) (array_of mid vault_synced) synced) vault_is sync);
  fix = subst (λ (folders : List FolderView). IsFixed synced.table (array_of folders vault_synced) (array_of fixed_folders vault_fixed) fixed) worn_is fix;
  check = check;
  sync_unfailed = sync_well;
  fix_unfailed = fix_well;
  check_unfailed = check_well;
}

pub is_exercise : (n : ℕ) (synced : SyncEnd) (fixed checked : FixEnd) (last made : List FolderView) (vault : CalmValue) (same : Bool) → IsCourse n synced fixed checked (array_of last vault)
    → made ≡ map standing (trees n) → (IsTrue same ↔ (trees_of last ≡ trees_of made)) → IsExercise n (summary_of synced fixed checked same)
is_exercise n synced fixed checked last made vault same course made_is tells = record {
  synced = synced;
  fixed = fixed;
  checked = checked;
  last = array_of last vault;
  course = course;
  summary = refl;
  same = (λ yes. tells.0 yes ∙ before_is, λ equal. tells.1 (equal ∙ sym before_is));
}
  where
    before_is : trees_of made ≡ trees n
    before_is = ap trees_of made_is ∙ trees_standing (trees n)

-- the same of the lists that these are
pub same_lists : (b : Bool) (folders others folders_then others_then : List CalmFolder) → folders_then ≡ folders → others_then ≡ others
    → (IsTrue b ↔ (trees_of (map calm_folder_view folders_then) ≡ trees_of (map calm_folder_view others_then))) → (IsTrue b ↔ (trees_of (map calm_folder_view folders) ≡ trees_of (map calm_folder_view others)))
same_lists b folders others folders_then others_then one other tells =
    subst (λ (fs : List CalmFolder). IsTrue b ↔ (trees_of (map calm_folder_view fs) ≡ trees_of (map calm_folder_view others))) one
    (subst (λ (fs : List CalmFolder). IsTrue b ↔ (trees_of (map calm_folder_view folders_then) ≡ trees_of (map calm_folder_view fs))) other tells)
