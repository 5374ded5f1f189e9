-- The cell of a column at a stripe, as a window keeps it.
use Rattle.std.proofs.Common.{◌≡◌, ℕ, ◌<◌, length, Option, Some, sym, ◌∙◌}
use Rattle.file_table.specs.Cells.{cell_in}
use Rattle.file_table.specs.Table.{TableValue, column_at}
use Rattle.file_table.specs.declared.block.Cell.{Cell}
use Rattle.file_table.proofs.CellInLemmas.{cell_in-Some}
use Rattle.stripe_reader.specs.WindowValue.{WindowValue, cell_at}
use Rattle.stripe_examiner.specs.MarkedCell.{IsCellAt}
use Rattle.stripe_examiner.specs.Marks.{KeepsCells}

module _ (table : TableValue) (stripe i d : ℕ) (window : WindowValue) (keeps : KeepsCells table stripe i window) (below : d < length table.columns) (found : Option Cell)
    (kept : found ≡ cell_at window i d) where
  -- it is the table's
  pub kept_is : found ≡ cell_in (column_at table.columns d) stripe
  kept_is = kept ∙ keeps d below

  -- and of a block of one of the column's records, if there is one
  pub kept_cell : (cell : Cell) → found ≡ Some cell → IsCellAt table stripe d cell
  kept_cell cell is =
      let there : cell_in (column_at table.columns d) stripe ≡ Some cell = sym kept_is ∙ is in
      let at = cell_in-Some (column_at table.columns d) stripe cell there in
      record { is = there; rec_within = at.within; block_within = at.index_within }
