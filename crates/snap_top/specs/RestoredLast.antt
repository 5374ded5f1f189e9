-- What a fix that went to its end restores of what was last synced, and what it names.
use Rattle.std.specs.Prelude.{◌≡◌, ◌↔◌, ℕ, ◌<◌, Bool, true, false, Contains, List, length}
use Rattle.cauchy.specs.Matrix.{byte_of}
use Rattle.disk_model.specs.Files.{Files, parity_of}
use Rattle.disk_model.specs.Tree.{Tree}
use Rattle.file_table.specs.Table.{records_in}
use Rattle.file_table.specs.declared.block.Cell.{Cell}
use Rattle.parity_writer.specs.Parity.{HasLevel}
use Rattle.snap_fix.specs.Ending.{Finishes, is_finished}
use Rattle.snap_fix.specs.Fixing.{facts_of}
use Rattle.snap_fix.specs.Genuine.{AreGenuine, TellsIntactLevels, held_row}
use Rattle.snap_fix.specs.Mended.{has_lost, is_wrong_level}
use Rattle.snap_fix.specs.Restored.{CanBeHad, HoldsCell, IsDamagedCell, StandsFinished}
use Rattle.snap_sync.specs.Part.{tree_at}
use Rattle.stripe_examiner.specs.Facts.{StripeFacts}
use Rattle.repair_scope.specs.Plan.{entry_at, is_searched, is_synced}
use Rattle.stripe_reader.specs.Columns.{folder_at}
use Rattle.snap_top.specs.Fix.{FixRun}
use Rattle.snap_top.specs.LastSynced.{LastSynced}
use Rattle.snap_top.specs.Lost.{IsToldLost, NamesBlocked, NamesUnsynced}
use Rattle.snap_top.specs.Stands.{StandsAfter}
use Rattle.snap_top.specs.Restoring.{EndsFixed, events_in}
use Rattle.snap_top.specs.Entry.{Entry, Exit}
use Rattle.snap_top.specs.Did.{Did, fixes}
use Rattle.snap_top.specs.Undamaged.{HasEnough}
use Rattle.parity_writer.specs.Sound.{last_row}

-- a selected damaged cell of a record that isn't blocked
pub record IsInReach (run : FixRun) (facts : StripeFacts) (d : ℕ) (cell : Cell) : Type 0 where
  pub is : IsDamagedCell run.plan (facts_of run.stripes) facts d cell
  pub free : (entry_at run.plan d cell.rec).blocked ≡ false

-- the block of a cell is in the trees again, byte for byte as it was last synced, under PATH or under PATH`.unrecoverable`
abbrev pub HasLast : FixRun → LastSynced → List Tree → StripeFacts → ℕ → Cell → Type 0
HasLast run last trees facts d cell =
    HoldsCell run.plan.table d cell (has_lost run.plan run.stripes d cell.rec) (byte_of (held_row run.plan.table last.snapshot facts.stripe) d) (tree_at trees d)

-- The file of each selected record that isn't blocked is finished: it stands under PATH with its recorded size and, where the folder keeps
-- that, its recorded stamp; or, if a cell of it is lost, under PATH`.unrecoverable`, or nowhere if it was nowhere and nothing of it was
-- written. What stood before is what the folders held when the run began.
abbrev pub FinishesFiles : FixRun → List Tree → Type 0
FinishesFiles run trees = (d i : ℕ) → d < length run.plan.table.columns → i < length (records_in run.plan.table d) → is_finished run.plan d i ≡ true
    → StandsFinished run.plan run.stripes d i (folder_at run.folders d).keeps (folder_at run.folders d).tree (tree_at trees d)

-- So is each such cell of a stripe that is searched whose block can be had: where no more of its cells are missing than levels that
-- were read whole hold the sums of the row that is searched for; and so is each of a synced stripe where no more are missing than
-- levels were read and not changed from outside since it was last synced. Each selected damaged cell of a stripe that is searched,
-- also of a blocked record, is told to be lost exactly where its block can't be had. Just the pending stripes with a selected cell
-- are told to be unsynced, and just the selected blocked records to be blocked. The files of all others that are selected are finished.
pub record RestoresLast (run : FixRun) (finishes : Finishes) (last : LastSynced) (trees : List Tree) : Type 0 where
  pub restored : (facts : StripeFacts) (d : ℕ) (cell : Cell) (is_intact : ℕ → Bool) → IsInReach run facts d cell
      → is_searched run.plan facts.stripe ≡ true → TellsIntactLevels run.plan facts (held_row run.plan.table last.snapshot facts.stripe) is_intact → CanBeHad run.plan facts is_intact d
      → HasLast run last trees facts d cell
  pub counted : (facts : StripeFacts) (d : ℕ) (cell : Cell) → IsInReach run facts d cell
      → is_synced run.plan facts.stripe ≡ true → HasEnough run last.is_changed facts
      → HasLast run last trees facts d cell
  pub named : (facts : StripeFacts) (d : ℕ) (cell : Cell) (is_intact : ℕ → Bool)
      → IsDamagedCell run.plan (facts_of run.stripes) facts d cell → is_searched run.plan facts.stripe ≡ true → TellsIntactLevels run.plan facts (held_row run.plan.table last.snapshot facts.stripe) is_intact
      → IsToldLost (events_in run finishes) facts d cell ↔ ¬ (CanBeHad run.plan facts is_intact d)
  pub unsynced : NamesUnsynced run.plan (events_in run finishes)
  pub blocked : NamesBlocked run.plan (events_in run finishes)
  pub finished : FinishesFiles run trees

-- Each selected level that was read, of a stripe whose row is known, and was not the sum of that row, holds the sums of the row that
-- was last synced.
abbrev pub HasLastLevels : FixRun → LastSynced → Files → Type 0
HasLastLevels run last files = (facts : StripeFacts) (r : ℕ) → Contains (facts_of run.stripes) facts
    → is_wrong_level run.plan facts r ≡ true → HasLevel run.plan.table.shape.block_size r facts.stripe (last_row last.snapshot facts.stripe) (parity_of files r)

-- So a fix ends, as `fixed` says, by the one account of what its run did. It met no hash by chance.
pub record IsRestored (before : Entry) (exit : Exit) (status : ℕ) (did : Did) (last : LastSynced) (trees : List Tree) : Type 0 where
  pub ends : EndsFixed before exit status
  pub did_is : did ≡ fixes false ends.run
  pub genuine : AreGenuine ends.run.plan (held_row ends.run.plan.table last.snapshot) (facts_of ends.run.stripes)
  pub restores : RestoresLast ends.run ends.finishes last trees
  pub levels : (files : Files) → StandsAfter exit files → HasLastLevels ends.run last files
