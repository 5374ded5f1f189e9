use Rattle.std.proofs.Common.{◌≡◌, ℕ, ◌<◌, None, get_or}
use Rattle.file_table.specs.Cells.{cell_in}
use Rattle.file_table.specs.Table.{column_at}
use Rattle.stripe_reader.specs.LookedUp.{IsOfRecord}
use Rattle.stripe_reader.proofs.cells.look_up_cells.Given as goal

abbrev pub invariant-loop-i : goal.invariant-loop-i
invariant-loop-i l = record {
  looked : (j : ℕ) → j < l.i → get_or l.cells j None ≡ cell_in (column_at l.table.columns l.d) (get_or l.stripes j 0);
  last : IsOfRecord l.table l.d l.before;
}
