-- When no hash is met by chance: what a fix takes for a block of a stripe is the block of its snapshot.
use Rattle.std.specs.Prelude.{◌≡◌, ◌↔◌, ℕ, ◌*◌, ◌<◌, ◌≤◌, List, [], ◌∷◌, length, get_or, slice_index, count_by, Bool, true, IsTrue, IfSome, All, Some}
use Rattle.cauchy.specs.Matrix.{byte_of}
use Rattle.disk_model.specs.Bytes.{read_from}
use Rattle.disk_model.specs.Files.{Files, parity_of}
use Rattle.disk_model.specs.Folder.{FolderView}
use Rattle.file_table.specs.Cells.{CellView}
use Rattle.file_table.specs.Table.{TableValue}
use Rattle.file_table.specs.Valid.{IsValid}
use Rattle.parity_writer.specs.LevelReading.{LevelReading, kept_level}
use Rattle.parity_writer.specs.LevelsValue.{LevelValue, no_level}
use Rattle.parity_writer.specs.Parity.{Row}
use Rattle.parity_writer.specs.Sound.{Closed, HasCells, Snapshot, Sound, closed_cells, last_row}
use Rattle.parity_writer.specs.WindowRow.{bytes_of}
use Rattle.stripe_reader.specs.Starts.{StartsValue}
use Rattle.stripe_examiner.specs.Facts.{StripeFacts, IsGift, gift_of, missing_in, row_before, slot_of, wanted_in}
use Rattle.stripe_examiner.specs.Present.{ArePresent}
use Rattle.stripe_examiner.specs.Known.{AreFacts, AreRemainders, whole_levels}
use Rattle.repair_scope.specs.Plan.{FixPlan, is_searched, seen_at}
use Rattle.stripe_examiner.specs.Restorable.{LostStripe, CandidatesAreGenuine, IsIntact}

-- the stripe with what is missing of it, as it is searched
abbrev pub lost_of : FixPlan → StripeFacts → List ℕ → LostStripe
lost_of plan facts remainders = record {
  shape = plan.table.shape;
  wanteds = wanted_in plan facts;
  levels = whole_levels facts.levels;
  level = λ (r : ℕ). (get_or facts.levels r no_level).block;
  row = row_before plan facts;
  remainders = remainders;
}

-- bytes are the block of a column of a row, with zeros behind them
abbrev pub IsBlockIn : ℕ → Row → ℕ → List ℕ → Type 0
IsBlockIn block_size row d bytes = (p : ℕ) → p < block_size → slice_index bytes p ≡ byte_of row d p

-- the same blocks, with zeros behind them
pub record IsSameRow (block_size : ℕ) (one other : Row) : Type 0 where
  pub as_many : length one ≡ length other
  pub bytes : (d p : ℕ) → p < block_size → byte_of one d p ≡ byte_of other d p

-- No block of the stripe has a recorded hash by chance: what stands in the place of a cell, what the spare gave for it, and what a choice
-- of levels gives is the snapshot's block wherever it has the recorded hash.
pub record IsGenuine (plan : FixPlan) (snapshot : Row) (facts : StripeFacts) : Type 0 where
  pub present : (d : ℕ) (cell : CellView) → d < length plan.table.columns → seen_at plan facts.stripe d ≡ Some cell
      → IsGift plan.table.shape cell (bytes_of (slot_of facts d))
      → IsBlockIn plan.table.shape.block_size snapshot d (bytes_of (slot_of facts d))
  pub given : (d : ℕ) (cell : CellView) (bytes : List ℕ) → d < length plan.table.columns → seen_at plan facts.stripe d ≡ Some cell
      → gift_of facts d ≡ Some bytes → IsGift plan.table.shape cell bytes
      → IsBlockIn plan.table.shape.block_size snapshot d bytes
  pub recovered : (remainders : List ℕ) → AreRemainders plan.table.shape.block_size (row_before plan facts) facts.levels remainders
      → CandidatesAreGenuine (lost_of plan facts remainders) snapshot

-- A stripe in which a recovery was tried: its facts are of what stood in the folders at first, the snapshot's row was closed there, and
-- what has a recorded hash is the snapshot's.
pub record HasGenuineFacts (plan : FixPlan) (starts : StartsValue) (firsts : List FolderView) (snapshot : Row) (facts : StripeFacts) : Type 0 where
  pub valid : IsValid plan.table
  pub are : AreFacts plan facts
  pub searched : is_searched plan facts.stripe ≡ true
  pub present : ArePresent plan starts firsts (facts ∷ [])
  pub was : HasCells plan.table.shape (closed_cells plan.table facts.stripe) snapshot
  pub genuine : IsGenuine plan snapshot facts

-- so it is of each stripe in which a recovery is tried
abbrev pub AreGenuine : FixPlan → Snapshot → List StripeFacts → Type 0
AreGenuine plan snapshot stripes =
    All (λ (facts : StripeFacts). IsTrue (is_searched plan facts.stripe) → IsGenuine plan (snapshot facts.stripe) facts) stripes

-- of the rows that a stripe was closed with, the one that is searched for there by this table: the newest
abbrev pub held_row : TableValue → Closed → Snapshot
held_row table snapshot stripe = last_row snapshot stripe

-- what is kept of a level of a stripe was read of these files, or the level was not read
pub record IsLevelOf (block_size stripe level : ℕ) (files : Files) (kept : LevelValue) : Type 0 where
  pub reading : LevelReading
  pub is_kept : kept ≡ kept_level block_size reading
  pub is_of : IfSome reading (λ (bytes : List ℕ). bytes ≡ read_from (parity_of files level) (stripe * block_size) block_size)

-- all levels of stripes were read of these files
abbrev pub AreLevelsIn : ℕ → Files → List StripeFacts → Type 0
AreLevelsIn block_size files stripes =
    All (λ (facts : StripeFacts). (r : ℕ) → r < length facts.levels
    → IsLevelOf block_size facts.stripe r files (get_or facts.levels r no_level)) stripes

-- Stripes that were looked at: their facts are of what stood in the folders at first and of the levels of files in which the table was
-- sound; and what has a recorded hash is the snapshot's.
pub record AreGenuineOf (plan : FixPlan) (starts : StartsValue) (firsts : List FolderView) (files : Files) (snapshot : Closed)
    (is_changed : ℕ → ℕ → Bool) (stripes : List StripeFacts) : Type 0 where
  pub valid : IsValid plan.table
  pub are : All (AreFacts plan) stripes
  pub present : ArePresent plan starts firsts stripes
  pub levels : AreLevelsIn plan.table.shape.block_size files stripes
  pub sound : Sound plan.table files snapshot is_changed
  pub genuine : AreGenuine plan (held_row plan.table snapshot) stripes

-- a level that was read whole is the sum of the snapshot's row
abbrev pub IsIntactLevel : FixPlan → StripeFacts → Row → ℕ → Type 0
IsIntactLevel plan facts snapshot r = IsIntact (lost_of plan facts []) snapshot r

-- tells of each level that was read whole whether it is intact
abbrev pub TellsIntactLevels : FixPlan → StripeFacts → Row → (ℕ → Bool) → Type 0
TellsIntactLevels plan facts snapshot is_intact =
    All (λ (r : ℕ). IsTrue (is_intact r) ↔ IsIntactLevel plan facts snapshot r) (whole_levels facts.levels)

-- A stripe that was synced is restorable, by counting: no more cells are missing than levels are intact.
abbrev pub IsRestorableStripe : FixPlan → StripeFacts → (ℕ → Bool) → Type 0
IsRestorableStripe plan facts is_intact = length (missing_in plan facts) ≤ count_by is_intact (whole_levels facts.levels)
