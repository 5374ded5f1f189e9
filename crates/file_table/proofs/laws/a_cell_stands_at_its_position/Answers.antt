use Rattle.file_table.proofs.CellInLemmas.{cell_in-Some, cell_in-None, cell_in_only}
use Rattle.file_table.proofs.laws.a_cell_stands_at_its_position.Goals as goal

pub returns : goal.returns
returns c = record {
  found = cell_in-Some;
  none = cell_in-None;
  only = λ column position cell once at. cell_in_only column position once cell.rec cell.index at;
}
