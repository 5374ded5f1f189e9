-- The scrub of a run as a whole, said without what else the run touches.
use Rattle.std.specs.Prelude.{◌≡◌, ◌≢◌, ℕ, ◌^◌, ◌<◌, List, [], length, All}
use Rattle.content_file.specs.Save.{HasSaved}
use Rattle.content_file.specs.Spelling.{spelling}
use Rattle.disk_model.specs.Files.{Files}
use Rattle.disk_model.specs.Folder.{FolderView}
use Rattle.disk_model.specs.Vault.{VaultView}
use Rattle.file_table.specs.Table.{TableValue}
use Rattle.file_table.specs.Valid.{IsValid}
use Rattle.array_setup.specs.Setup.{SetupValue}
use Rattle.array_setup.specs.declared.ways.ScrubWay.{ScrubWay}
use Rattle.snap_scrub.specs.Course.{MayStandScrubbed}
use Rattle.snap_scrub.specs.Marks.{scrubbed}
use Rattle.snap_scrub.specs.Plan.{plan_of}
use Rattle.snap_scrub.specs.Reading.{AreLevelsOf, HasLevels, ScrubReading, cells_of}
use Rattle.snap_sync.specs.Soundness.{IsLoadedFrom}
use Rattle.stripe_findings.specs.Reading.{AreRead, stripes_of}

-- What it was asked for, and by which configuration; the table that it began with, its time and how many copies it saves to; what was read
-- of its stripes; and the folders at the beginning and at the end.
pub record ScrubRun : Type 0 where
  pub way : ScrubWay
  pub setup : SetupValue
  pub loaded : TableValue
  pub now : ℕ
  pub copies : ℕ
  pub readings : List ScrubReading
  pub folders : List FolderView
  pub ended : List FolderView

-- the table with the marks of its stripes
abbrev pub marked_table : ScrubRun → TableValue
marked_table run = scrubbed run.now run.loaded run.readings

-- Whatever it did and whenever it is stopped: parity stays, and each copy is as it was or spells that table. Where no stripe was read all
-- stays.
abbrev pub MayStandMarked : ScrubRun → Files → Files → Type 0
MayStandMarked run = MayStandScrubbed (marked_table run) run.readings

-- at its end each copy spells that table, where a stripe was read
abbrev pub LeavesMarked : ScrubRun → Files → Type 0
LeavesMarked run files = run.readings ≢ [] → HasSaved run.copies (spelling (marked_table run)) files

-- It was from a table that was loaded of so many copies of the vault's files. Its stripes are those of the plan; what is known of their
-- cells is what was read of the folders, and of their levels what was read of the vault.
pub record ScrubsOver (copies : ℕ) (vault : VaultView) (run : ScrubRun) : Type 0 where
  pub valid : IsValid run.loaded
  pub is_loaded : IsLoadedFrom copies run.loaded vault.files
  pub copies_are : run.copies ≡ copies
  pub columns : length run.folders ≡ length run.loaded.columns
  pub stripes : stripes_of (cells_of run.readings) ≡ plan_of run.loaded run.way run.now
  pub cells : AreRead run.loaded (cells_of run.readings) run.folders run.ended
  pub due : All (HasLevels run.loaded) run.readings
  pub levels : All (AreLevelsOf vault run.loaded.shape.block_size) run.readings
  pub in_time : run.now < 2 ^ 64
