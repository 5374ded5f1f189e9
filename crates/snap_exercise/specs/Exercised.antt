-- What an exercise comes to: what a sync, a fix and a check do to the array that its number makes.
use Rattle.std.specs.Prelude.{◌≡◌, ◌↔◌, ℕ, ◌+◌, ◌<◌, List, [], ◌++◌, length, map, set, sum_by, count_by, All, IsTrue, Bool, None, false}
use Rattle.std.specs.FinMap as finite
use Rattle.std.specs.List.{range_with_len}
use Rattle.folder_listing.specs.Kept.{ListedFile}
use Rattle.array_scan.specs.Layout.{pending_stripes}
use Rattle.folder_listing.specs.Listings.{ListsAll}
use Rattle.content_file.specs.Save.{HasSaved, HasNoDraft}
use Rattle.content_file.specs.Spelling.{spelling}
use Rattle.disk_calm.specs.Calm.{CalmValue, calm_view_of, fresh_calm_vault}
use Rattle.disk_model.specs.Cause.{RoseBy}
use Rattle.disk_model.specs.Folder.{FolderView}
use Rattle.disk_model.specs.Tree.{Tree, listing_of}
use Rattle.disk_model.specs.Vault.{VaultView, Holds}
use Rattle.file_restorer.specs.declared.finishing.Finish.{Finish}
use Rattle.file_table.specs.Table.{TableValue}
use Rattle.parity_writer.specs.LevelReading.{LevelReading}
use Rattle.array_setup.specs.declared.ways.Selection.{Selection}
use Rattle.array_setup.specs.declared.ways.SyncWay.{SyncWay}
use Rattle.snap_exercise.specs.Exercise.{Summary}
use Rattle.snap_exercise.specs.Generated.{first_table, moment, setup, standing, trees, turned_tree}
use Rattle.snap_fix.specs.Course.{IsPlan, check_events}
use Rattle.snap_fix.specs.FixCourse.{FixFinds, FixesFiles, FixesVault, fix_events}
use Rattle.snap_fix.specs.Fixing.{facts_of}
use Rattle.snap_fix.specs.Mended.{Mended, wrong_in, written_in}
use Rattle.snap_fix.specs.declared.checks.FixEnd.{FixEnd}
use Rattle.snap_report.specs.Kind.{is_finding, is_left}
use Rattle.snap_sync.specs.Calls.{SyncPlan}
use Rattle.snap_sync.specs.Closing.{closed, verified_in}
use Rattle.snap_sync.specs.Beginning.{LaysOut}
use Rattle.snap_sync.specs.Course.{TouchesVault, plan_of}
use Rattle.snap_sync.specs.Ended.{IsEndOf}
use Rattle.snap_sync.specs.Images.{HasParityAfter}
use Rattle.snap_sync.specs.Part.{layout_by, readings_by, trees_of}
use Rattle.snap_sync.specs.Reading.{ReadsFirst}
use Rattle.snap_sync.specs.Work.{more_findings}
use Rattle.snap_sync.specs.declared.syncing.SyncEnd.{SyncEnd}
use Rattle.stripe_examiner.specs.Asking.{AsksSpare}
use Rattle.stripe_examiner.specs.Counts.{at_most}
use Rattle.stripe_examiner.specs.Facts.{StripeFacts}
use Rattle.stripe_examiner.specs.Known.{AreFacts}
use Rattle.stripe_examiner.specs.Looking.{AreRead, LevelsAreRead, numbers_of, unread_cells}
use Rattle.repair_scope.specs.Plan.{FixPlan, entries_of, names_of, stripes_of}
use Rattle.stripe_examiner.specs.Place.{starts_of}
use Rattle.repair_scope.specs.Selected.{means_level}
use Rattle.stripe_examiner.specs.Spare.{nothing}
use Rattle.repair_scope.specs.declared.scope.Mode.TheVariants.{Check, Fix}
use Rattle.stripe_findings.specs.Findings.{events_of}
use Rattle.stripe_findings.specs.Reading.{StripeReading}
use Rattle.stripe_reader.specs.Columns.{folder_at}

-- the folders and the vault of the array
pub record Array : Type 0 where
  pub folders : List FolderView
  pub vault : CalmValue

abbrev pub array_of : List FolderView → CalmValue → Array
array_of folders vault = record { folders = folders; vault = vault }

-- the array of a number, before its sync
abbrev pub begun : ℕ → Array
begun n = array_of (map standing (trees n)) (fresh_calm_vault 3 1)

-- what its vault tells
abbrev pub vault_of : Array → VaultView
vault_of array = calm_view_of array.vault

-- the first two disks have lost their files, and those of the third have other first bytes
abbrev pub damaged : ℕ → List FolderView → List FolderView
damaged n folders = set (set (set folders 0 (standing finite.empty)) 1 (standing finite.empty)) 2 (standing (turned_tree n))

abbrev pub damaged_trees : ℕ → List Tree
damaged_trees n = set (set (set (trees n) 0 finite.empty) 1 finite.empty) 2 (turned_tree n)

-- so has the array
abbrev pub after_damage : ℕ → Array → Array
after_damage n array = record array { folders = damaged n array.folders }

-- no call of its objects has failed
pub record NoneFailed (array : Array) : Type 0 where
  pub folders : All (λ (folder : FolderView). folder.faults ≡ 0) array.folders
  pub vault : array.vault.faults ≡ 0

-- nothing is asked of the sync beyond what it does anyway, and nothing of the fix and the check is left out
abbrev pub way : SyncWay
way = record { force_zero = false; force_empty = false; save_every = None }

abbrev pub everything : Selection
everything = record { disks = []; patterns = []; missing = false; errors = false }

abbrev pub plan_from : TableValue → VaultView → SyncPlan
plan_from start vault = plan_of setup way start moment vault

-- The sync of the array, by what it did: its folders are laid out, all pending stripes were read of them, and those that are verified are
-- synced, in the table and in parity.
pub record IsSynced (old new : Array) (end : SyncEnd) : Type 0 where
  pub start : TableValue
  pub listed : List FolderView
  pub laid : LaysOut setup way first_table start old.folders listed
  pub readings : List StripeReading
  pub all : length readings ≡ length (pending_stripes start.infos)
  pub reads : ReadsFirst start (readings ++ []) listed new.folders
  pub vault : TouchesVault (plan_from start (vault_of old)) false readings (vault_of old) (vault_of new)
  pub table_is : end.table ≡ closed moment start readings
  pub saved : Holds (HasSaved (plan_from start (vault_of old)).copies (spelling end.table)) (vault_of new)
  pub parity : Holds (HasParityAfter (plan_from start (vault_of old)) readings (length readings) (vault_of old).files) (vault_of new)
  pub no_draft : HasNoDraft (vault_of new)
  pub synced : end.synced ≡ verified_in start readings
  pub pending : end.synced + end.pending ≡ length (pending_stripes start.infos)
  pub findings : end.findings ≡ more_findings 0 (length (events_of start readings))

-- The fix of the array, by what it did: what it found of the stripes of its plan, what it wrote, and what it counts.
pub record IsFixed (table : TableValue) (old new : Array) (end : FixEnd) : Type 0 where
  pub lists : List (List ListedFile)
  pub mids : List FolderView
  pub as_many : length mids ≡ length old.folders
  pub listed : ListsAll old.folders mids lists
  pub plan : FixPlan
  pub plan_is : IsPlan Fix everything (names_of setup) table lists plan
  pub stripes : List Mended
  pub numbers : numbers_of (facts_of stripes) ≡ stripes_of plan
  pub readings : List (List LevelReading)
  pub finds : FixFinds plan (starts_of table lists) mids (vault_of old) stripes readings
  pub spare : AsksSpare plan (facts_of stripes) nothing nothing
  pub vault : FixesVault plan stripes readings (vault_of old) (vault_of new)
  pub finishes : List (List Finish)
  pub files : FixesFiles plan (starts_of table lists) stripes finishes mids new.folders
  pub unread : (d : ℕ) → d < length plan.table.columns
      → RoseBy (unread_cells d (facts_of stripes)) (folder_at old.folders d).faults (folder_at new.folders d).faults
  pub left : end.left ≡ at_most (count_by is_left (fix_events plan stripes finishes))
  pub blocks : end.blocks ≡ at_most (sum_by (written_in plan) stripes)
  pub parities : end.parities ≡ at_most (sum_by (wrong_in plan) stripes)

-- The check of the array, by what it found of the stripes of its plan.
pub record IsChecked (table : TableValue) (old new : Array) (end : FixEnd) : Type 0 where
  pub lists : List (List ListedFile)
  pub mids : List FolderView
  pub as_many : length mids ≡ length old.folders
  pub listed : ListsAll old.folders mids lists
  pub plan : FixPlan
  pub plan_is : IsPlan Check everything (names_of setup) table lists plan
  pub stripes : List StripeFacts
  pub numbers : numbers_of stripes ≡ stripes_of plan
  pub are : All (AreFacts plan) stripes
  pub read : AreRead plan (starts_of table lists) stripes mids new.folders
  pub levels : LevelsAreRead plan stripes (vault_of old) (vault_of new)
  pub spare : AsksSpare plan stripes nothing nothing
  pub findings : end.findings ≡ at_most (count_by is_finding (check_events plan stripes))

-- what they came to, and whether the trees are those of before
abbrev pub summary_of : SyncEnd → FixEnd → FixEnd → Bool → Summary
summary_of synced fixed checked same = record {
  stripes = length synced.table.infos;
  synced = synced.synced;
  pending = synced.pending;
  sync_findings = synced.findings;
  blocks = fixed.blocks;
  parities = fixed.parities;
  left = fixed.left;
  check_findings = checked.findings;
  same = same;
}

-- The array of a number was synced, damaged, fixed and checked, and no call of its objects failed in that; this it was at last.
pub record IsCourse (n : ℕ) (synced : SyncEnd) (fixed checked : FixEnd) (last : Array) : Type 0 where
  pub after_sync : Array
  pub after_fix : Array
  pub sync : IsSynced (begun n) after_sync synced
  pub fix : IsFixed synced.table (after_damage n after_sync) after_fix fixed
  pub check : IsChecked synced.table after_fix last checked
  pub sync_unfailed : NoneFailed after_sync
  pub fix_unfailed : NoneFailed after_fix
  pub check_unfailed : NoneFailed last

-- such an exercise was carried out, and this is what it came to
pub record IsExercise (n : ℕ) (s : Summary) : Type 0 where
  pub synced : SyncEnd
  pub fixed : FixEnd
  pub checked : FixEnd
  pub last : Array
  pub course : IsCourse n synced fixed checked last
  pub summary : s ≡ summary_of synced fixed checked s.same
  pub same : IsTrue s.same ↔ (trees_of last.folders ≡ trees n)

-- ---- its sync

-- what is laid out for a number, and what its trees give of the pending stripes
abbrev pub start_of : ℕ → TableValue
start_of n = layout_by setup first_table (trees n)

abbrev pub readings_of : ℕ → List StripeReading
readings_of n = readings_by (start_of n) (trees n) (pending_stripes (start_of n).infos)

-- the summary tells of a sync that ended and that read these
pub record HasSyncOf (n : ℕ) (s : Summary) : Type 0 where
  pub end : SyncEnd
  pub is_end : IsEndOf (start_of n) moment (readings_of n) end
  pub stripes : s.stripes ≡ length (start_of n).infos
  pub synced : s.synced ≡ end.synced
  pub pending : s.pending ≡ end.pending
  pub findings : s.sync_findings ≡ end.findings

-- two summaries tell the same of their sync
pub record TellSameSync (one other : Summary) : Type 0 where
  pub stripes : one.stripes ≡ other.stripes
  pub synced : one.synced ≡ other.synced
  pub pending : one.pending ≡ other.pending
  pub findings : one.sync_findings ≡ other.sync_findings

-- the sync found nothing, so it left no stripe pending
pub record ClosesAll (s : Summary) : Type 0 where
  pub findings : s.sync_findings ≡ 0
  pub pending : s.pending ≡ 0

-- ---- its fix

-- the table of its sync, what its folders list after the damage, and the plan of its fix
abbrev pub table_of_sync : ℕ → TableValue
table_of_sync n = closed moment (start_of n) (readings_of n)

abbrev pub damaged_lists : ℕ → List (List ListedFile)
damaged_lists n = map listing_of (damaged_trees n)

abbrev pub fix_plan : ℕ → FixPlan
fix_plan n = record {
  scope = record { mode = Fix; only_bad = false; levels = map (means_level everything) (range_with_len 0 6) };
  table = table_of_sync n;
  entries = entries_of everything (names_of setup) (table_of_sync n) (damaged_lists n);
}

-- two summaries tell the same of their fix
pub record TellSameFix (one other : Summary) : Type 0 where
  pub blocks : one.blocks ≡ other.blocks
  pub parities : one.parities ≡ other.parities
  pub left : one.left ≡ other.left
