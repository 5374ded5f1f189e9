-- What became of the columns and of the cells of a stripe in a window: a missing block has no bytes, and one that the spare gave stands there.
use Rattle.std.specs.Prelude.{◌≡◌, ◌≢◌, ℕ, ◌<◌, List, [], length, map, filter, slice_index_or, take, Bool, true, false, if◌then◌else◌, Option, None, Some}
use Rattle.std.specs.List.{range_with_len}
use Rattle.folder_listing.specs.Kept.{each_column}
use Rattle.file_table.specs.Cells.{CellView, cell_in}
use Rattle.file_table.specs.Table.{TableValue, column_at}
use Rattle.file_table.specs.declared.shape.Shape.{Shape}
use Rattle.parity_writer.specs.LevelsValue.{LevelValue, LevelsValue}
use Rattle.parity_writer.specs.WindowRow.{bytes_of, row_at}
use Rattle.stripe_reader.specs.Slot.{slot_given}
use Rattle.stripe_reader.specs.SlotValue.{SlotValue}
use Rattle.stripe_reader.specs.WindowValue.{WindowValue, Fits, cell_at, slot_at, no_slot}
use Rattle.stripe_examiner.specs.declared.marking.ColumnMark.{ColumnMark}
use Rattle.stripe_examiner.specs.declared.marking.SlotMark.{SlotMark}
use Rattle.stripe_examiner.specs.declared.marking.ColumnMark.TheVariants.{Right, Given, Missing}
use Rattle.stripe_examiner.specs.declared.marking.CellMark.{CellMark}
use Rattle.stripe_examiner.specs.declared.marking.CellMark.TheVariants.{Whole, Sought, Damaged}
use Rattle.stripe_examiner.specs.declared.search.Wanted.{Wanted}
use Rattle.stripe_examiner.specs.Facts.{StripeFacts, is_damaged, is_sought, IsGift, wanted_by}
use Rattle.repair_scope.specs.Plan.{FixPlan, EntriesFit, seen_at, is_searched}

-- the marks of a column and of its cell, and each of them
abbrev pub no_mark : SlotMark
no_mark = record { column = Right; cell = Whole }

abbrev pub mark_in : List SlotMark → ℕ → SlotMark
mark_in marks d = slice_index_or marks d no_mark

abbrev pub column_mark : List SlotMark → ℕ → ColumnMark
column_mark marks d = (mark_in marks d).column

abbrev pub cell_mark : List SlotMark → ℕ → CellMark
cell_mark marks d = (mark_in marks d).cell

abbrev pub is_marked_missing : ColumnMark → Bool
is_marked_missing Right = false
is_marked_missing Given = false
is_marked_missing Missing = true

-- the mark of a cell, by whether it is damaged and whether it is sought
abbrev pub mark_of_cell : Bool → Bool → CellMark
mark_of_cell false sought = Whole
mark_of_cell true true = Sought
mark_of_cell true false = Damaged

-- what the mark of a column says of it, by what its slot kept before and after
abbrev pub IsMarked : Bool → Shape → Option CellView → SlotValue → ColumnMark → SlotValue → Type 0
IsMarked searched shape seen before Right after = (is_damaged shape.kind seen before ≡ false) × (after ≡ before)
IsMarked searched shape seen before Missing after =
    (is_damaged shape.kind seen before ≡ true) × (after ≡ slot_given shape.block_size [] before)
IsMarked searched shape seen before Given after =
    (is_damaged shape.kind seen before ≡ true) × (searched ≡ true) × (cell : CellView) × (seen ≡ Some cell) × (given : List ℕ)
    × IsGift shape cell given × (after ≡ slot_given shape.block_size given before)

-- the window has the same room, keeps the same cells of the table, and all but one of its stripes are as they were
pub record ChangesStripe (i : ℕ) (before after : WindowValue) : Type 0 where
  pub room : after.room ≡ before.room
  pub block_size : after.block_size ≡ before.block_size
  pub count : after.count ≡ before.count
  pub lanes : length after.lanes ≡ length before.lanes
  pub cells : after.cells ≡ before.cells
  pub others : (k d : ℕ) → k ≢ i → slot_at after k d ≡ slot_at before k d

-- each cell of a stripe has its mark, by what its slot kept
abbrev pub MarkCells : FixPlan → ℕ → ℕ → WindowValue → List SlotMark → Type 0
MarkCells plan stripe i before marks = (d : ℕ) → d < length plan.table.columns
    → cell_mark marks d ≡ mark_of_cell (is_damaged plan.table.shape.kind (seen_at plan stripe d) (slot_at before i d)) (is_sought plan stripe d)

-- the columns of a stripe and their cells were marked
pub record MarksCells (plan : FixPlan) (stripe i : ℕ) (before : WindowValue) (marks : List SlotMark)
    (after : WindowValue) : Type 0 where
  pub changes : ChangesStripe i before after
  pub as_many : length marks ≡ length plan.table.columns
  pub each : (d : ℕ) → d < length plan.table.columns
      → IsMarked (is_searched plan stripe) plan.table.shape (seen_at plan stripe d) (slot_at before i d)
      (column_mark marks d) (slot_at after i d)
  pub cells : MarkCells plan stripe i before marks

-- what is searched for, by the marks
abbrev pub wanted_marked : FixPlan → ℕ → List SlotMark → List Wanted
wanted_marked plan stripe marks =
    map (λ d. wanted_by plan.table.shape d (seen_at plan stripe d))
    (filter (λ d. is_marked_missing (column_mark marks d)) (range_with_len 0 (length plan.table.columns)))

-- what the spare gave, by the marks and by what the slots keep then
abbrev pub gift_by : ColumnMark → SlotValue → Option (List ℕ)
gift_by Right slot = None
gift_by Missing slot = None
gift_by Given slot = Some (bytes_of slot)

abbrev pub gifts_after : ℕ → WindowValue → List SlotMark → List (Option (List ℕ))
gifts_after i after marks = each_column (λ d. gift_by (column_mark marks d) (slot_at after i d)) (length marks)

-- what the slots of a stripe keep
abbrev pub slots_at : WindowValue → ℕ → List SlotValue
slots_at window i = map (λ (lane : List SlotValue). slice_index_or lane i no_slot) window.lanes

-- the row of a stripe of the window, where it is known
abbrev pub row_if : Bool → WindowValue → ℕ → Option (List (List ℕ))
row_if known window i = if known then Some (row_at window i) else None

-- the facts of a stripe, by the window as it was read and as it is then
abbrev pub facts_after : ℕ → ℕ → WindowValue → List SlotMark → List LevelValue → Bool → WindowValue → StripeFacts
facts_after stripe i before marks levels known after = record {
  stripe = stripe;
  slots = slots_at before i;
  gifts = gifts_after i after marks;
  levels = levels;
  row = row_if known after i;
}

-- the levels that were read last; none where no recovery is tried
abbrev pub levels_read : Bool → LevelsValue → List LevelValue
levels_read searched levels = if searched then take levels.count levels.levels else []

-- a window keeps, at the number of a stripe in it, the cell that a table has there of each column
abbrev pub KeepsCells : TableValue → ℕ → ℕ → WindowValue → Type 0
KeepsCells table stripe i window = (d : ℕ) → d < length table.columns → cell_at window i d ≡ cell_in (column_at table.columns d) stripe

-- a stripe of a window can be examined
pub record CanExamine (plan : FixPlan) (stripe i : ℕ) (window : WindowValue) : Type 0 where
  pub entries : EntriesFit plan.table plan.entries
  pub fits : Fits plan.table window
  pub within : stripe < length plan.table.infos
  pub number : i < window.count
  pub cells : KeepsCells plan.table stripe i window
