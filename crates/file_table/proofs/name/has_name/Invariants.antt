use Rattle.std.proofs.Common.{◌≢◌, take}
use Rattle.std.specs.List.{All}
use Rattle.file_table.specs.Table.{Column}
use Rattle.file_table.proofs.name.has_name.Given as goal

abbrev pub invariant-loop-disk : goal.invariant-loop-disk
invariant-loop-disk l = All (λ (column : Column). column.name ≢ l.name) (take l.disk-index l.disks)
