-- The fix of a run as a whole, said without what else the run touches.
use Rattle.std.specs.Prelude.{◌≡◌, ◌⊎◌, ℕ, ◌<◌, List, ◌++◌, length, All, None}
use Rattle.folder_listing.specs.Kept.{ListedFile}
use Rattle.folder_listing.specs.Listings.{ListsAll}
use Rattle.content_file.specs.Spelling.{HoldsTable}
use Rattle.disk_model.specs.Files.{Files, content_of}
use Rattle.disk_model.specs.Folder.{FolderView, FolderCall, ListFiles}
use Rattle.disk_model.specs.Vault.{VaultView}
use Rattle.file_table.specs.Table.{TableValue}
use Rattle.file_table.specs.Valid.{IsValid}
use Rattle.parity_writer.specs.LevelReading.{LevelReading}
use Rattle.array_setup.specs.Setup.{SetupValue}
use Rattle.array_setup.specs.declared.ways.Selection.{Selection}
use Rattle.snap_fix.specs.Course.{IsPlan}
use Rattle.stripe_examiner.specs.Facts.{StripeFacts, gift_of}
use Rattle.snap_fix.specs.FixCourse.{FixFinds, IsFixCall}
use Rattle.snap_fix.specs.Fixing.{facts_of}
use Rattle.snap_fix.specs.Genuine.{AreGenuine, held_row}
use Rattle.stripe_examiner.specs.Looking.{numbers_of}
use Rattle.snap_fix.specs.Mended.{Mended}
use Rattle.repair_scope.specs.Plan.{FixPlan, names_of, stripes_of}
use Rattle.stripe_examiner.specs.Place.{starts_of}
use Rattle.file_restorer.specs.State.{AnyCall, FolderMakes}
use Rattle.snap_fix.specs.Underway.{HoldsWrong, IsMendedLevel, KeepsLevels}
use Rattle.repair_scope.specs.declared.scope.Mode.TheVariants as modes
use Rattle.snap_sync.specs.Soundness.{IsLoadedFrom}
use Rattle.snap_top.specs.Views.{folder_at}
use Rattle.parity_writer.specs.Sound.{Closed}

-- What it was asked for, and by which configuration; the table that it began with; what the folders listed, and the plan by that; the
-- stripes that were looked at, and what was read of their levels; and the folders at the beginning, once they were listed, and at the end.
pub record FixRun : Type 0 where
  pub selection : Selection
  pub setup : SetupValue
  pub loaded : TableValue
  pub lists : List (List ListedFile)
  pub plan : FixPlan
  pub stripes : List Mended
  pub readings : List (List LevelReading)
  pub folders : List FolderView
  pub listed : List FolderView
  pub ended : List FolderView

-- ---- what it does to the vault and to the folders

-- Whatever it did and whenever it is stopped: the copies stay, and so does each byte of a level but those of the wrong blocks of its stripes.
abbrev pub MayStandFixed : FixRun → Files → Files → Type 0
MayStandFixed run = KeepsLevels run.plan.table.shape.block_size (IsMendedLevel run.plan (facts_of run.stripes))

-- at its end each wrong level holds the sum of its stripe's row
abbrev pub LeavesFixed : FixRun → Files → Type 0
LeavesFixed run files = All (λ (facts : StripeFacts). HoldsWrong run.plan facts files) (facts_of run.stripes)

-- the calls of a folder: it is listed, and then those of a fix of these stripes are made
abbrev pub IsRunCall : FixRun → ℕ → FolderCall → Type 0
IsRunCall run d call = (call ≡ ListFiles) ⊎ IsFixCall run.plan (starts_of run.loaded run.lists) d run.stripes call

-- Only such calls were made of the folders. Where one tells its files, what it holds then is among what a stop within them may leave.
pub record AllFixed (run : FixRun) (olds news : List FolderView) : Type 0 where
  pub count : length news ≡ length olds
  pub each : (d : ℕ) → d < length olds → FolderMakes (AnyCall (IsRunCall run d)) (folder_at olds d) (folder_at news d)

-- ---- over an array

-- It was from a table that was loaded of so many copies of the vault's files; the folders were listed; its stripes are the first ones that
-- have something selected, all but those behind them; and what it knows of them is what stood there. No block came from elsewhere.
pub record FixesOver (copies : ℕ) (vault : VaultView) (run : FixRun) : Type 0 where
  pub valid : IsValid run.loaded
  pub is_loaded : IsLoadedFrom copies run.loaded vault.files
  pub columns : length run.folders ≡ length run.loaded.columns
  pub as_many : length run.listed ≡ length run.folders
  pub listed : ListsAll run.folders run.listed run.lists
  pub plan_is : IsPlan modes.Fix run.selection (names_of run.setup) run.loaded run.lists run.plan
  pub behind : List ℕ
  pub numbers : stripes_of run.plan ≡ numbers_of (facts_of run.stripes) ++ behind
  pub finds : FixFinds run.plan (starts_of run.loaded run.lists) run.listed vault run.stripes run.readings
  pub no_gifts : All (λ (facts : StripeFacts). (d : ℕ) → gift_of facts d ≡ None) (facts_of run.stripes)

-- ---- the premise on hashes

-- No block that the fix met has a recorded hash by chance: each that has one is the snapshot's. And all copies that are content files
-- are of arrays with blocks of one size.
pub record IsGenuineFix (run : FixRun) (copies : ℕ) (files : Files) (snapshot : Closed) : Type 0 where
  pub genuine : AreGenuine run.plan (held_row run.plan.table snapshot) (facts_of run.stripes)
  pub one_size : (copy : ℕ) (table : TableValue) → copy < copies → IsValid table → HoldsTable table (content_of files copy)
      → table.shape.block_size ≡ run.loaded.shape.block_size
