-- What the spare gave when it was asked for one block, and for the cells of the first columns of a stripe.
use Rattle.std.specs.Prelude.{◌≡◌, ℕ, ◌<◌, ◌≤◌, ◌&&◌, not, List, length, count_by, Bool, true, false, IsTrue, Option}
use Rattle.std.specs.List.{range_with_len}
use Rattle.block_hash.specs.declared.Kind.{Kind}
use Rattle.disk_model.specs.Cause.{Rose, RoseBy}
use Rattle.file_table.specs.Cells.{CellView}
use Rattle.file_table.specs.Table.{TableValue}
use Rattle.stripe_reader.specs.SlotValue.{SlotValue}
use Rattle.stripe_reader.specs.WindowValue.{WindowValue, slot_at}
use Rattle.stripe_examiner.specs.declared.marking.ColumnMark.{ColumnMark}
use Rattle.stripe_examiner.specs.declared.marking.SlotMark.{SlotMark}
use Rattle.stripe_examiner.specs.declared.marking.ColumnMark.TheVariants.{Right, Given, Missing}
use Rattle.stripe_examiner.specs.declared.search.Wanted.{Wanted}
use Rattle.stripe_examiner.specs.Facts.{is_damaged, has_hash, wanted_by}
use Rattle.stripe_examiner.specs.Marks.{column_mark}
use Rattle.repair_scope.specs.Plan.{FixPlan, is_searched, seen_at, seen_in}
use Rattle.stripe_examiner.specs.Spare.{SpareView, holds_block}

-- A block was asked of the spare or not, and was given or not. What the spare holds stays. Where it tells that, it gave nothing but what
-- it holds, and its count of faults rose where it was asked for what it holds and did not give it.
pub record AsksBlock (asked held given : Bool) (old new : SpareView) : Type 0 where
  pub later : old.faults ≤ new.faults
  pub same : new ≡ record old { faults = new.faults }
  pub gave : IsTrue old.tells → given ≡ true → held ≡ true
  pub withheld : IsTrue old.tells → asked && not given && held ≡ true → Rose old.faults new.faults

-- the same of the cells of so many columns, where the count rose by no less than the blocks that were not given
pub record AsksCells (count : ℕ) (asked held given : ℕ → Bool) (old new : SpareView) : Type 0 where
  pub later : old.faults ≤ new.faults
  pub same : new ≡ record old { faults = new.faults }
  pub gave : IsTrue old.tells → (d : ℕ) → d < count → given d ≡ true → held d ≡ true
  pub withheld : IsTrue old.tells
      → RoseBy (count_by (λ d. asked d && not (given d) && held d) (range_with_len 0 count)) old.faults new.faults

-- the spare gave the block of a cell, by its mark
abbrev pub is_marked_given : ColumnMark → Bool
is_marked_given Right = false
is_marked_given Given = true
is_marked_given Missing = false

-- a cell is asked of the spare where it is searched for, by what is seen of it and by what was read of it
abbrev pub asks_for : Bool → Kind → Option CellView → SlotValue → Bool
asks_for searched kind seen slot = searched && is_damaged kind seen slot && has_hash seen

-- the spare holds a block that is searched for
abbrev pub holds_wanted : SpareView → Wanted → Bool
holds_wanted spare wanted = holds_block spare wanted.hash.0 wanted.length

-- the spare was asked for the cell of a column at a stripe, or was not, and gave its block or did not
abbrev pub AsksCell : Bool → TableValue → ℕ → ℕ → SlotValue → Bool → SpareView → SpareView → Type 0
AsksCell searched table stripe d slot given old new =
    AsksBlock (asks_for searched table.shape.kind (seen_in table stripe d) slot)
    (holds_wanted old (wanted_by table.shape d (seen_in table stripe d))) given old new

-- what the spare gave for the cells of a stripe, by their marks
abbrev pub AsksMarked : FixPlan → ℕ → ℕ → WindowValue → List SlotMark → SpareView → SpareView → Type 0
AsksMarked plan stripe i before marks old new =
    AsksCells (length plan.table.columns)
    (λ d. asks_for (is_searched plan stripe) plan.table.shape.kind (seen_at plan stripe d) (slot_at before i d))
    (λ d. holds_wanted old (wanted_by plan.table.shape d (seen_at plan stripe d)))
    (λ d. is_marked_given (column_mark marks d)) old new
