use Rattle.std.proofs.Common.{◌≡◌, map, take}
use Rattle.disk_model.specs.Tree.{listed}
use Rattle.repair_scope.specs.Plan.{entry_of}
use Rattle.file_table.specs.Table.{records_in}
use Rattle.repair_scope.proofs.entries.entries_of_column.Given as goal

abbrev pub invariant-loop-i : goal.invariant-loop-i
invariant-loop-i l = l.entries.items ≡ map (entry_of l.selection l.name (listed l.files)) (take l.i (records_in l.table l.d))
