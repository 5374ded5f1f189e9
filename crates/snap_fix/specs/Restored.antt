-- What a fix leaves of damaged cells, where the folders tell their files.
use Rattle.std.specs.Prelude.{◌≡◌, ◌≢◌, ◌⊎◌, ℕ, ◌+◌, ◌<◌, List, length, is_some, Bool, true, false, All, Contains, None, Some, IsTrue}
use Rattle.disk_model.specs.Folder.{FolderView}
use Rattle.disk_model.specs.Tree.{Tree, File, file_of, path_of}
use Rattle.disk_model.specs.declared.meta.Meta.{Meta}
use Rattle.disk_model.specs.declared.meta.Stamp.{Stamp}
use Rattle.cauchy.specs.Matrix.{byte_of}
use Rattle.cauchy.specs.Recovery.{AreBytes}
use Rattle.file_table.specs.Table.{TableValue, record_at, records_in}
use Rattle.file_table.specs.Valid.{IsValid}
use Rattle.file_table.specs.declared.block.Cell.{Cell}
use Rattle.parity_writer.specs.Keeps.{HasByte}
use Rattle.parity_writer.specs.Parity.{Row}
use Rattle.snap_report.specs.declared.events.Event.TheVariants as event
use Rattle.stripe_reader.specs.Columns.{folder_at}
use Rattle.stripe_reader.specs.Reading.{block_length}
use Rattle.stripe_reader.specs.Starts.{StartsValue}
use Rattle.stripe_reader.specs.declared.starts.Place.TheVariants.{Plain, Nowhere}
use Rattle.file_restorer.specs.declared.finishing.Finish.{Finish}
use Rattle.stripe_examiner.specs.Facts.{StripeFacts, damaged_at, gift_of, is_sought}
use Rattle.stripe_examiner.specs.Findings.{is_lost}
use Rattle.snap_fix.specs.Ending.{is_finished}
use Rattle.snap_fix.specs.FixCourse.{FixesFiles, fix_events}
use Rattle.snap_fix.specs.Fixing.{facts_of}
use Rattle.snap_fix.specs.Genuine.{HasGenuineFacts, IsRestorableStripe, TellsIntactLevels}
use Rattle.stripe_examiner.specs.Known.{AreFacts}
use Rattle.stripe_examiner.specs.Looking.{numbers_of}
use Rattle.snap_fix.specs.Mended.{AnswersFit, Mended, has_lost, is_repaired, is_written, writes_of}
use Rattle.stripe_examiner.specs.Showing.{known_block}
use Rattle.file_restorer.specs.Mending.{block_start, cell_path}
use Rattle.file_restorer.specs.State.{has_some, place_in, record_path}
use Rattle.repair_scope.specs.Plan.{FixPlan, cell_at, entry_at, is_synced, selects_cell, stripes_of}

-- A fix that ended: it found these facts of the stripes of its plan, and did that to the files.
pub record HasFixed (plan : FixPlan) (starts : StartsValue) (stripes : List Mended) (finishes : List (List Finish)) (firsts news : List FolderView) : Type 0 where
  pub valid : IsValid plan.table
  pub numbers : numbers_of (facts_of stripes) ≡ stripes_of plan
  pub are : All (AreFacts plan) (facts_of stripes)
  pub answered : All (AnswersFit plan firsts) stripes
  pub files : FixesFiles plan starts stripes finishes firsts news

-- so it has, and its folder tells its files: this is a record of a column
pub record HasFixedRecord (plan : FixPlan) (starts : StartsValue) (stripes : List Mended) (finishes : List (List Finish)) (firsts news : List FolderView)
    (d i : ℕ) : Type 0 where
  pub fixed : HasFixed plan starts stripes finishes firsts news
  pub tells : IsTrue (folder_at firsts d).tells
  pub column : d < length plan.table.columns
  pub inside : i < length (records_in plan.table d)

-- one that is selected, and isn't blocked
pub record HasFinished (plan : FixPlan) (starts : StartsValue) (stripes : List Mended) (finishes : List (List Finish)) (firsts news : List FolderView)
    (d i : ℕ) : Type 0 where
  pub fixed : HasFixedRecord plan starts stripes finishes firsts news d i
  pub finished : is_finished plan d i ≡ true

-- a cell of one of these stripes is selected and damaged
pub record IsDamagedCell (plan : FixPlan) (stripes : List StripeFacts) (facts : StripeFacts) (d : ℕ) (cell : Cell)
    : Type 0 where
  pub one : Contains stripes facts
  pub column : d < length plan.table.columns
  pub cell_is : cell_at plan facts.stripe d ≡ Some cell
  pub selected : selects_cell plan facts.stripe d ≡ true
  pub damaged : damaged_at plan facts d ≡ true

-- no block is known for such a cell of a stripe
pub record IsUnknownCell (plan : FixPlan) (stripes : List StripeFacts) (stripe d : ℕ) (cell : Cell) : Type 0 where
  pub facts : StripeFacts
  pub number : facts.stripe ≡ stripe
  pub is : IsDamagedCell plan stripes facts d cell
  pub unknown : is_some (known_block plan facts d) ≡ false

-- its block was given by the spare, in a synced stripe
abbrev pub IsGivenBlock : FixPlan → StripeFacts → ℕ → Type 0
IsGivenBlock plan facts d = (is_synced plan facts.stripe ≡ true) × (is_some (gift_of facts d) ≡ true)

-- its block can be had: it is sought, and it was given, or its stripe is restorable
pub record CanBeHad (plan : FixPlan) (facts : StripeFacts) (is_intact : ℕ → Bool) (d : ℕ) : Type 0 where
  pub sought : is_sought plan facts.stripe d ≡ true
  pub had : IsGivenBlock plan facts d ⊎ IsRestorableStripe plan facts is_intact

-- The file of a record stands under PATH, or under PATH`.unrecoverable`, and has these bytes in the place of the block of a cell, at its
-- real length.
pub record HoldsCell (table : TableValue) (d : ℕ) (cell : Cell) (lost : Bool) (byte : ℕ → ℕ) (tree : Tree) : Type 0 where
  pub file : File
  pub there : file_of tree (path_of (cell_path table d cell) lost) ≡ Some file
  pub bytes : (p : ℕ) → p < block_length table.shape.block_size (record_at table.columns d cell.rec).meta.size cell.index
      → HasByte file.bytes (block_start table cell + p) (byte p)

-- Of a cell nothing was written in any of the stripes.
abbrev pub IsNotWritten : FixPlan → List Mended → ℕ → Cell → Type 0
IsNotWritten plan stripes d cell = (mended : Mended) → Contains stripes mended → cell_at plan mended.facts.stripe d ≡ Some cell
    → is_written plan mended d ≡ false

-- a file stands under PATH with the recorded size, and with the recorded stamp where the folder keeps that
pub record StandsRestored (keeps : Stamp → Bool) (meta : Meta) (path : List ℕ) (tree : Tree) : Type 0 where
  pub file : File
  pub there : file_of tree (path_of path false) ≡ Some file
  pub size : length file.bytes ≡ meta.size
  pub stamp : IsTrue (keeps meta.stamp) → file.stamp ≡ meta.stamp

-- a file stands under PATH`.unrecoverable`, and none under PATH
pub record StandsUnrecoverable (path : List ℕ) (tree : Tree) : Type 0 where
  pub file : File
  pub there : file_of tree (path_of path true) ≡ Some file
  pub none : file_of tree (path_of path false) ≡ None

-- neither under PATH nor under PATH`.unrecoverable` a file of a record stood, and nothing was written to it
abbrev pub HadNoFile : FixPlan → List Mended → ℕ → ℕ → Tree → Type 0
HadNoFile plan stripes d i first =
    (place_in first (record_path (records_in plan.table d) i) ≡ Nowhere) × (has_some (writes_of plan stripes d i) ≡ false)

-- How a fix finishes the file of a record. If no cell of it is lost, it stands under PATH with its recorded size, and with its recorded stamp
-- where the folder keeps that; an older file under PATH`.unrecoverable` stays, or has become this one. If a cell is lost, it stands under
-- PATH`.unrecoverable`, and none stands under PATH; but there is none where there was none and nothing was written.
pub record StandsFinished (plan : FixPlan) (stripes : List Mended) (d i : ℕ) (keeps : Stamp → Bool) (first later : Tree) : Type 0 where
  pub whole : has_lost plan stripes d i ≡ false
      → StandsRestored keeps (record_at plan.table.columns d i).meta (record_path (records_in plan.table d) i) later
  pub kept : has_lost plan stripes d i ≡ false → place_in first (record_path (records_in plan.table d) i) ≡ Plain
      → file_of later (path_of (record_path (records_in plan.table d) i) true) ≡ file_of first (path_of (record_path (records_in plan.table d) i) true)
  pub gone : has_lost plan stripes d i ≡ false → place_in first (record_path (records_in plan.table d) i) ≢ Plain
      → file_of later (path_of (record_path (records_in plan.table d) i) true) ≡ None
  pub unrecoverable : has_lost plan stripes d i ≡ true → ¬ (HadNoFile plan stripes d i first)
      → StandsUnrecoverable (record_path (records_in plan.table d) i) later
  pub nowhere : has_lost plan stripes d i ≡ true → HadNoFile plan stripes d i first
      → (lost : Bool) → file_of later (path_of (record_path (records_in plan.table d) i) lost) ≡ None

-- ---- a damaged cell, where no block has a recorded hash by chance

-- its block can be had, and its record isn't blocked: its file has the block of the snapshot
abbrev pub RestoresGenuine : Type 0
RestoresGenuine = (plan : FixPlan) (starts : StartsValue) (stripes : List Mended) (finishes : List (List Finish)) (firsts news : List FolderView)
    (facts : StripeFacts) (d : ℕ) (cell : Cell) (snapshot : Row) (is_intact : ℕ → Bool)
    → HasFixed plan starts stripes finishes firsts news → IsDamagedCell plan (facts_of stripes) facts d cell
    → HasGenuineFacts plan starts firsts snapshot facts → AreBytes snapshot → TellsIntactLevels plan facts snapshot is_intact
    → (entry_at plan d cell.rec).blocked ≡ false → IsTrue (folder_at firsts d).tells → CanBeHad plan facts is_intact d
    → HoldsCell plan.table d cell (has_lost plan stripes d cell.rec) (byte_of snapshot d) (folder_at news d).tree

-- it can't be had: it is told to be lost, and nothing is written
abbrev pub LosesGenuine : Type 0
LosesGenuine = (plan : FixPlan) (starts : StartsValue) (stripes : List Mended) (finishes : List (List Finish)) (firsts : List FolderView)
    (facts : StripeFacts) (d : ℕ) (cell : Cell) (snapshot : Row) (is_intact : ℕ → Bool)
    → IsDamagedCell plan (facts_of stripes) facts d cell → HasGenuineFacts plan starts firsts snapshot facts → AreBytes snapshot
    → TellsIntactLevels plan facts snapshot is_intact → (CanBeHad plan facts is_intact d → ⊥)
    → (is_lost plan facts d ≡ true)
    × Contains (fix_events plan stripes finishes) (event.Lost facts.stripe d cell.rec cell.index)
    × (is_repaired plan facts d ≡ false)
