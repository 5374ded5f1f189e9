use Rattle.parity_writer.proofs.CellsLemmas.{row_has_cells}
use Rattle.parity_writer.proofs.HashedCells.{row_with_cells}
use Rattle.parity_writer.proofs.laws.a_row_has_the_cells_that_close_it.Goals as goal

pub returns-clause-cells : goal.returns-clause-cells
returns-clause-cells c = row_has_cells

pub returns-clause-row : goal.returns-clause-row
returns-clause-row c = λ table stripe row valid synced as_many has. row_with_cells c.a_cell_stands_at_its_position.ensures.found table valid stripe synced row as_many has
