use Rattle.std.proofs.Common.{sym}
use Rattle.file_table.specs.Table.{column_at, no_column}
use Rattle.file_table.proofs.CellInLemmas.{cell_in_only}
use Rattle.stripe_reader.proofs.cells.cell_after.Goals as goal

pub returns-in-Some : goal.returns-in-Some
returns-in-Some c =
    let columns = c.args.table.now.columns in
    let cell = c.in-Some.cell in
    let is_column = c.disks-disks.ensures.valid.columns.each c.args.d no_column c.requires.column in
    sym (cell_in_only (column_at columns c.args.d) c.args.stripe is_column.once cell.rec cell.index c.in-Some.ensures)
