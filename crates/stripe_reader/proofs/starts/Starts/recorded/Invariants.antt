use Rattle.std.proofs.Common.{◌≡◌, map, take}
use Rattle.file_table.specs.Table.{Column}
use Rattle.stripe_reader.specs.Starts.{recorded_start}
use Rattle.stripe_reader.proofs.starts.Starts.recorded.Given as goal

abbrev pub invariant-loop-d : goal.invariant-loop-d
invariant-loop-d l = map (λ column. column.items) l.columns.items ≡ map (λ (column : Column). map recorded_start column.records) (take l.d l.table.columns)
