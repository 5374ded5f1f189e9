-- The part sync of some stripes of a table, and the full sync: what they leave of table and parity, by what the trees hold.
use Rattle.std.specs.Prelude.{◌≡◌, ◌⊎◌, ℕ, ◌<◌, List, ◌++◌, length, take, map, filter, get_or, Some, true}
use Rattle.std.specs.Prelude.{All, Contains, IsTrue}
use Rattle.std.specs.List.{range_with_len}
use Rattle.std.specs.FinMap as finite_map
use Rattle.folder_listing.specs.Kept.{ListedFile, kept_lists}
use Rattle.array_scan.specs.Layout.{layout, pending_stripes}
use Rattle.folder_listing.specs.Listings.{ListsAll}
use Rattle.content_file.specs.Spelling.{spelling}
use Rattle.disk_model.specs.Cause.{Rose}
use Rattle.disk_model.specs.Files.{Files, content_of}
use Rattle.disk_model.specs.Folder.{FolderView}
use Rattle.disk_model.specs.Tree.{Tree, listing_of}
use Rattle.file_table.specs.Table.{TableValue}
use Rattle.file_table.specs.declared.info.Info.{Info}
use Rattle.array_setup.specs.Setup.{SetupValue}
use Rattle.stripe_reader.specs.Columns.{folder_at}
use Rattle.stripe_reader.specs.Reading.{given_by, task_at}
use Rattle.stripe_reader.specs.Slot.{kept}
use Rattle.stripe_reader.specs.SlotValue.{SlotValue}
use Rattle.stripe_reader.specs.Starts.{recorded_starts}
use Rattle.snap_sync.specs.Calls.{SyncPlan, level_bytes}
use Rattle.snap_sync.specs.Closing.{closed, rows_of}
use Rattle.snap_sync.specs.Images.{HasParity, table_after}
use Rattle.stripe_findings.specs.Reading.{StripeReading, is_verified, stripes_of}
use Rattle.snap_sync.specs.Reading.{ReadsFirst}

-- the trees of folders, and the tree of a column's folder
abbrev pub trees_of : List FolderView → List Tree
trees_of folders = map (λ (folder : FolderView). folder.tree) folders

abbrev pub tree_at : List Tree → ℕ → Tree
tree_at trees d = get_or trees d finite_map.empty

-- each folder tells its tree
abbrev pub AllTell : List FolderView → Type 0
AllTell folders = (d : ℕ) → d < length folders → IsTrue (folder_at folders d).tells

-- no folder's count of faults rose
abbrev pub NoneRose : List FolderView → List FolderView → Type 0
NoneRose olds news = (d : ℕ) → d < length olds → ¬ (Rose (folder_at olds d).faults (folder_at news d).faults)

-- what the trees give of a cell, and of a stripe and of stripes of a table
abbrev pub slot_by : TableValue → List Tree → ℕ → ℕ → SlotValue
slot_by table trees stripe d = kept table.shape (given_by (tree_at trees d) (task_at table (recorded_starts table) d stripe))

abbrev pub reading_by : TableValue → List Tree → ℕ → StripeReading
reading_by table trees stripe = record {
  stripe = stripe;
  slots = map (slot_by table trees stripe) (range_with_len 0 (length table.columns));
}

abbrev pub readings_by : TableValue → List Tree → List ℕ → List StripeReading
readings_by table trees stripes = map (reading_by table trees) stripes

-- the trees verify a stripe
abbrev pub IsVerifiedBy : TableValue → List Tree → ℕ → Type 0
IsVerifiedBy table trees stripe = is_verified table (reading_by table trees stripe) ≡ true

-- The table of a part sync: some pending stripes, each of which the trees verify, are synced now, with the hashes of what the
-- trees hold.
pub record IsPartTable (start : TableValue) (trees : List Tree) (stripes : List ℕ) (now : ℕ)
    (table : TableValue) : Type 0 where
  pub pending : All (Contains (pending_stripes start.infos)) stripes
  pub verified : All (IsVerifiedBy start trees) stripes
  pub is : table ≡ closed now start (readings_by start trees stripes)

-- A part sync: this is its table, and parity has the sums of the rows of these stripes. All other bytes below the length of the
-- table stay, and added ones are zero.
pub record IsPartSync (start : TableValue) (trees : List Tree) (stripes : List ℕ) (now : ℕ)
    (old : Files) (table : TableValue) (new : Files) : Type 0 where
  pub of_table : IsPartTable start trees stripes now table
  pub parity : HasParity start.shape.levels start.shape.block_size (level_bytes start)
      (rows_of start (readings_by start trees stripes)) old new

-- the layout of what the trees hold
abbrev pub layout_by : SetupValue → TableValue → List Tree → TableValue
layout_by setup old trees = layout old (kept_lists setup (map listing_of trees))

-- the full sync: all pending stripes of the layout are
abbrev pub IsFullSync : SetupValue → TableValue → List Tree → ℕ → Files → TableValue → Files → Type 0
IsFullSync setup old_table trees now old table new =
    let start = layout_by setup old_table trees in
    IsPartSync start trees (pending_stripes start.infos) now old table new

-- the stripes that are verified by what was read of them
abbrev pub verified_stripes : TableValue → List StripeReading → List ℕ
verified_stripes table readings = stripes_of (filter (is_verified table) readings)

-- A sync: each folder was listed, their kept files were laid out, and the first pending stripes were read after that.
pub record SyncsListed (setup : SetupValue) (old start : TableValue) (readings : List StripeReading)
    (olds mids news : List FolderView) : Type 0 where
  pub folders : length olds ≡ length old.columns
  pub as_many : length mids ≡ length olds
  pub lists : List (List ListedFile)
  pub listed : ListsAll olds mids lists
  pub start_is : start ≡ layout old (kept_lists setup lists)
  pub reads : ReadsFirst start readings mids news

-- and all folders tell their trees
pub record SyncsTold (setup : SetupValue) (old start : TableValue) (readings : List StripeReading)
    (olds mids news : List FolderView) : Type 0 where
  pub told : AllTell olds
  pub of_lists : SyncsListed setup old start readings olds mids news

-- A sync as a whole: its setup, the table that was loaded, its plan, what was read of the stripes that it came to and of those
-- ahead, and its folders as they were, once they were listed, and at its end.
pub record SyncRun : Type 0 where
  pub setup : SetupValue
  pub loaded : TableValue
  pub plan : SyncPlan
  pub readings : List StripeReading
  pub ahead : List StripeReading
  pub folders : List FolderView
  pub listed : List FolderView
  pub ended : List FolderView

abbrev pub IsListedRun : SyncRun → Type 0
IsListedRun run =
    SyncsListed run.setup run.loaded run.plan.start (run.readings ++ run.ahead) run.folders run.listed run.ended

abbrev pub IsToldRun : SyncRun → Type 0
IsToldRun run =
    SyncsTold run.setup run.loaded run.plan.start (run.readings ++ run.ahead) run.folders run.listed run.ended

-- its trees, what its layout is of, and the table after so many stripes
abbrev pub run_trees : SyncRun → List Tree
run_trees run = trees_of run.folders

abbrev pub run_kept : SyncRun → List (List ListedFile)
run_kept run = kept_lists run.setup (map listing_of (run_trees run))

abbrev pub run_table : SyncRun → ℕ → TableValue
run_table run count = table_after run.plan run.readings count

-- those of its stripes that are verified, after so many
abbrev pub run_verified : SyncRun → ℕ → List ℕ
run_verified run count = verified_stripes run.plan.start (take count run.readings)

-- the trees verify all pending stripes of its layout, and what was read verifies all of some stripes
abbrev pub TreesVerifyAll : SyncRun → Type 0
TreesVerifyAll run = All (IsVerifiedBy run.plan.start (run_trees run)) (pending_stripes run.plan.start.infos)

abbrev pub AllVerified : TableValue → List StripeReading → Type 0
AllVerified table readings = All (λ (reading : StripeReading). is_verified table reading ≡ true) readings

-- The copies at a moment of a sync: each is as it was, or spells the table of a part sync.
abbrev pub AreOfPartSyncs : TableValue → List Tree → ℕ → ℕ → Files → Files → Type 0
AreOfPartSyncs start trees now copies old new = (copy : ℕ) → copy < copies → (content_of new copy ≡ content_of old copy)
    ⊎ ((table : TableValue) × (stripes : List ℕ)
    × IsPartTable start trees stripes now table × (content_of new copy ≡ Some (spelling table)))

-- a table as it is but for the times of the last checks
abbrev pub without_check : Info → Info
without_check info = record info { last = 0 }

abbrev pub without_checks : TableValue → TableValue
without_checks table = record table { infos = map without_check table.infos }
