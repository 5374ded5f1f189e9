use Rattle.std.proofs.Common.{◌≡◌, map, take}
use Rattle.file_table.specs.Table.{column_at}
use Rattle.stripe_reader.specs.Starts.{recorded_start}
use Rattle.stripe_reader.proofs.starts.recorded_column.Given as goal

abbrev pub invariant-loop-i : goal.invariant-loop-i
invariant-loop-i l = l.starts.items ≡ map recorded_start (take l.i (column_at l.table.columns l.d).records)
