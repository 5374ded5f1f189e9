-- The known block of a cell, and how the marks and the window show the facts of a stripe.
use Rattle.std.specs.Prelude.{◌≡◌, ℕ, ◌<◌, ◌&&◌, ◌||◌, not, List, [], length, get_or, is_some, Bool, true, false, if◌then◌else◌, Option, None, Some}
use Rattle.file_table.specs.Table.{record_at}
use Rattle.file_table.specs.declared.block.Cell.{Cell}
use Rattle.parity_writer.specs.Parity.{Row}
use Rattle.parity_writer.specs.WindowRow.{bytes_of}
use Rattle.stripe_reader.specs.Reading.{block_length}
use Rattle.stripe_reader.specs.WindowValue.{WindowValue, slot_at}
use Rattle.stripe_examiner.specs.declared.marking.ColumnMark.{ColumnMark}
use Rattle.stripe_examiner.specs.declared.marking.SlotMark.{SlotMark}
use Rattle.stripe_examiner.specs.declared.marking.ColumnMark.TheVariants.{Right, Given, Missing}
use Rattle.stripe_examiner.specs.declared.marking.CellMark.{CellMark}
use Rattle.stripe_examiner.specs.declared.marking.CellMark.TheVariants.{Whole, Sought, Damaged}
use Rattle.stripe_examiner.specs.Facts.{StripeFacts, gift_of, damaged_at, is_sought}
use Rattle.stripe_examiner.specs.Marks.{cell_mark, column_mark, row_if}
use Rattle.repair_scope.specs.Plan.{FixPlan, cell_at, is_synced}

-- the block of a column in a row that is known
abbrev pub block_of_row : Option Row → ℕ → Option (List ℕ)
block_of_row None d = None
block_of_row (Some row) d = Some (get_or row d [])

-- the block of a cell that is sought, where it is known: in a synced stripe the spare gave it, or the row is known; in a pending one the row is
abbrev pub known_by : Bool → Option (List ℕ) → Option Row → ℕ → Option (List ℕ)
known_by true (Some given) row d = Some given
known_by true None row d = block_of_row row d
known_by false gift row d = block_of_row row d

-- the block of a damaged cell, where it is known: none unless the cell is sought
abbrev pub known_block : FixPlan → StripeFacts → ℕ → Option (List ℕ)
known_block plan facts d = if is_sought plan facts.stripe d then known_by (is_synced plan facts.stripe) (gift_of facts d) facts.row d else None

-- a cell is damaged, and its block not known
abbrev pub is_unknown : FixPlan → StripeFacts → ℕ → Bool
is_unknown plan facts d = damaged_at plan facts d && not (is_some (known_block plan facts d))

abbrev pub block_or_none : Option (List ℕ) → List ℕ
block_or_none None = []
block_or_none (Some bytes) = bytes

-- ---- what marks tell

abbrev pub is_damaged_mark : CellMark → Bool
is_damaged_mark Whole = false
is_damaged_mark Sought = true
is_damaged_mark Damaged = true

abbrev pub is_sought_mark : CellMark → Bool
is_sought_mark Whole = false
is_sought_mark Sought = true
is_sought_mark Damaged = false

abbrev pub is_given_mark : ColumnMark → Bool
is_given_mark Right = false
is_given_mark Given = true
is_given_mark Missing = false

-- the block of a damaged cell is known, by its marks, by whether its stripe is synced, and by whether the row is known; and it is not
abbrev pub is_known_mark : Bool → SlotMark → Bool → Bool
is_known_mark synced mark known = is_sought_mark mark.cell && (known || (synced && is_given_mark mark.column))

abbrev pub is_unknown_mark : Bool → SlotMark → Bool → Bool
is_unknown_mark synced mark known = is_damaged_mark mark.cell && not (is_known_mark synced mark known)

-- The marks and the window show the facts of a stripe: which of its cells are damaged and given, and of a damaged cell
-- whose block is known that block, at its real length.
pub record ShowsFacts (plan : FixPlan) (facts : StripeFacts) (i : ℕ) (marks : List SlotMark) (known : Bool)
    (window : WindowValue) : Type 0 where
  pub row : facts.row ≡ row_if known window i
  pub damaged : (d : ℕ) → d < length plan.table.columns → damaged_at plan facts d ≡ is_damaged_mark (cell_mark marks d)
  pub sought : (d : ℕ) → d < length plan.table.columns
      → (damaged_at plan facts d && is_sought plan facts.stripe d) ≡ is_sought_mark (cell_mark marks d)
  pub given : (d : ℕ) → d < length plan.table.columns → is_some (gift_of facts d) ≡ is_given_mark (column_mark marks d)
  pub block : (d : ℕ) → d < length plan.table.columns → damaged_at plan facts d ≡ true
      → is_some (known_block plan facts d) ≡ true → bytes_of (slot_at window i d) ≡ block_or_none (known_block plan facts d)
  pub long : (d : ℕ) (cell : Cell) → d < length plan.table.columns → cell_at plan facts.stripe d ≡ Some cell
      → damaged_at plan facts d ≡ true → is_some (known_block plan facts d) ≡ true
      → length (block_or_none (known_block plan facts d))
      ≡ block_length plan.table.shape.block_size (record_at plan.table.columns d cell.rec).meta.size cell.index
