-- The check of a run as a whole, said without what else the run touches.
use Rattle.std.specs.Prelude.{◌≡◌, ℕ, List, length, All, None}
use Rattle.folder_listing.specs.Kept.{ListedFile}
use Rattle.folder_listing.specs.Listings.{ListsAll}
use Rattle.disk_model.specs.Folder.{FolderView}
use Rattle.disk_model.specs.Vault.{VaultView}
use Rattle.file_table.specs.Table.{TableValue}
use Rattle.file_table.specs.Valid.{IsValid}
use Rattle.parity_writer.specs.LevelReading.{LevelReading}
use Rattle.array_setup.specs.Setup.{SetupValue}
use Rattle.array_setup.specs.declared.ways.Selection.{Selection}
use Rattle.snap_fix.specs.Course.{IsPlan}
use Rattle.stripe_examiner.specs.Facts.{StripeFacts, gift_of}
use Rattle.stripe_examiner.specs.Known.{AreFacts}
use Rattle.stripe_examiner.specs.Looking.{AreAllLevelsOf, AreRead, numbers_of}
use Rattle.repair_scope.specs.Plan.{FixPlan, names_of, stripes_of}
use Rattle.stripe_examiner.specs.Place.{starts_of}
use Rattle.repair_scope.specs.declared.scope.Mode.{Mode}
use Rattle.snap_sync.specs.Soundness.{IsLoadedFrom}

-- What it was asked for, and by which configuration; the table that it began with; what the folders listed, and the
-- plan by that; what is known of the stripes that were looked at, and what was read of their levels; and the folders at
-- the beginning, once they were listed, and at the end.
pub record CheckRun : Type 0 where
  pub selection : Selection
  pub setup : SetupValue
  pub loaded : TableValue
  pub lists : List (List ListedFile)
  pub plan : FixPlan
  pub stripes : List StripeFacts
  pub readings : List (List LevelReading)
  pub folders : List FolderView
  pub listed : List FolderView
  pub ended : List FolderView

-- It was from a table that was loaded of so many copies of the vault's files; the folders were listed; all stripes that
-- have something selected were looked at; and what is known of them is what was read of the folders and of the vault.
-- No block came from elsewhere.
pub record ChecksOver (mode : Mode) (copies : ℕ) (vault : VaultView) (run : CheckRun) : Type 0 where
  pub valid : IsValid run.loaded
  pub is_loaded : IsLoadedFrom copies run.loaded vault.files
  pub columns : length run.folders ≡ length run.loaded.columns
  pub as_many : length run.listed ≡ length run.folders
  pub listed : ListsAll run.folders run.listed run.lists
  pub plan_is : IsPlan mode run.selection (names_of run.setup) run.loaded run.lists run.plan
  pub numbers : numbers_of run.stripes ≡ stripes_of run.plan
  pub are : All (AreFacts run.plan) run.stripes
  pub read : AreRead run.plan (starts_of run.loaded run.lists) run.stripes run.listed run.ended
  pub levels : AreAllLevelsOf run.plan.table.shape.block_size vault run.stripes run.readings
  pub no_gifts : All (λ (facts : StripeFacts). (d : ℕ) → gift_of facts d ≡ None) run.stripes
