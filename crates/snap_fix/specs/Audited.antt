-- What an audit finds nothing of: it looks at the files of the selected records, and at no parity.
use Rattle.std.specs.Prelude.{◌≡◌, ℕ, ◌<◌, List, length, true, false, Some, Contains}
use Rattle.block_hash.specs.declared.Digest16.{Digest16}
use Rattle.file_table.specs.Cells.{cell_seen}
use Rattle.file_table.specs.Table.{column_at, record_at, records_in}
use Rattle.file_table.specs.declared.block.Cell.{Cell}
use Rattle.stripe_examiner.specs.Facts.{StripeFacts, slot_of}
use Rattle.stripe_examiner.specs.Findings.{is_unread}
use Rattle.repair_scope.specs.Plan.{FixPlan, cell_at, entry_at, selects_cell}
use Rattle.repair_scope.specs.Selected.{is_as_recorded}

-- the reading of a cell did not fail, and a block that came has the recorded hash, where there is one
pub record IsReadRight (plan : FixPlan) (facts : StripeFacts) (d : ℕ) (cell : Cell) : Type 0 where
  pub answered : is_unread (slot_of facts d).cell.found ≡ false
  pub right : (recorded came : Digest16) → (cell_seen (column_at plan.table.columns d) cell).hash ≡ Some recorded
      → (slot_of facts d).digest ≡ Some came → came ≡ recorded

-- each selected record is listed as it was recorded, and each selected cell of these stripes was read right
pub record FindsNothing (plan : FixPlan) (stripes : List StripeFacts) : Type 0 where
  pub listed : (d i : ℕ) → d < length plan.table.columns → i < length (records_in plan.table d) → (entry_at plan d i).selected ≡ true
      → is_as_recorded (record_at plan.table.columns d i).meta (entry_at plan d i).listed ≡ true
  pub read : (facts : StripeFacts) (d : ℕ) (cell : Cell) → Contains stripes facts → d < length plan.table.columns
      → cell_at plan facts.stripe d ≡ Some cell → selects_cell plan facts.stripe d ≡ true → IsReadRight plan facts d cell
