-- What a fix leaves alone, wherever it is stopped: blocks of cells, other files, and levels.
use Rattle.std.specs.Prelude.{◌≡◌, ◌⊎◌, ℕ, ◌+◌, ◌*◌, ◌<◌, List, length, is_some, true, false, Some, Contains}
use Rattle.disk_model.specs.Files.{Files, parity_of}
use Rattle.disk_model.specs.Tree.{File, Tree}
use Rattle.file_restorer.specs.Mending.{cell_path}
use Rattle.file_table.specs.Table.{records_in}
use Rattle.file_table.specs.declared.block.Cell.{Cell}
use Rattle.parity_writer.specs.Keeps.{HasByte}
use Rattle.snap_fix.specs.Fixing.{facts_of}
use Rattle.snap_fix.specs.Mended.{is_wrong_level}
use Rattle.snap_fix.specs.Stopped.{StandsInCell, file_placed}
use Rattle.snap_sync.specs.Part.{tree_at}
use Rattle.stripe_examiner.specs.Facts.{StripeFacts, damaged_at}
use Rattle.repair_scope.specs.Plan.{FixPlan, cell_at, entry_at, selects_cell}
use Rattle.stripe_examiner.specs.Showing.{known_block}
use Rattle.snap_top.specs.Fix.{FixRun, MayStandFixed}
use Rattle.snap_top.specs.Stopping.{SparesFiles, stop_of}

-- ---- cells

-- a cell of a stripe that a fix looked at is not damaged or not selected, or its block is not known, or its record is blocked
abbrev pub IsNotMended : FixPlan → StripeFacts → ℕ → Cell → Type 0
IsNotMended plan facts d cell =
    ((damaged_at plan facts d ≡ false) ⊎ (selects_cell plan facts.stripe d ≡ false))
    ⊎ ((is_some (known_block plan facts d) ≡ false) ⊎ ((entry_at plan d cell.rec).blocked ≡ true))

-- a cell of a record of which that is so, if the fix looked at its stripe
pub record IsLeftAlone (run : FixRun) (d : ℕ) (cell : Cell) : Type 0 where
  pub column : d < length run.plan.table.columns
  pub within : cell.rec < length (records_in run.plan.table d)
  pub alone : (facts : StripeFacts) → Contains (facts_of run.stripes) facts → cell_at run.plan facts.stripe d ≡ Some cell
      → IsNotMended run.plan facts d cell

-- each byte of the block of such a cell, in the file that stood in the place of its record, stands under a name of the record
abbrev pub SparesCells : FixRun → ℕ → Tree → Tree → Type 0
SparesCells run d first left = (cell : Cell) (before : File) → IsLeftAlone run d cell
    → file_placed first (cell_path run.plan.table d cell) ≡ Some before → StandsInCell (stop_of run d first left) cell before

-- ---- levels

-- a level of a stripe is not one that the fix found wrong by a known row
abbrev pub IsLevelLeftAlone : FixRun → ℕ → ℕ → Type 0
IsLevelLeftAlone run r stripe = (facts : StripeFacts) → Contains (facts_of run.stripes) facts → facts.stripe ≡ stripe
    → is_wrong_level run.plan facts r ≡ false

-- each byte of the block of such a level stays
abbrev pub SparesLevels : FixRun → Files → Files → Type 0
SparesLevels run old new = (r stripe p x : ℕ) → IsLevelLeftAlone run r stripe → p < run.plan.table.shape.block_size
    → HasByte (parity_of old r) (stripe * run.plan.table.shape.block_size + p) x
    → HasByte (parity_of new r) (stripe * run.plan.table.shape.block_size + p) x

-- ---- all of it

-- Of each column cells, and files of other records or of none, are left alone; and so are levels. The vault changed only as by a fix.
pub record SparesRest (run : FixRun) (trees left : List Tree) (old new : Files) : Type 0 where
  pub cells : (d : ℕ) → d < length trees → SparesCells run d (tree_at trees d) (tree_at left d)
  pub files : (d : ℕ) → d < length trees → SparesFiles (stop_of run d (tree_at trees d) (tree_at left d))
  pub levels : SparesLevels run old new
  pub vault : MayStandFixed run old new
