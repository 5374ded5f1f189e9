use Rattle.std.proofs.Common.{◌≡◌, take}
use Rattle.file_table.specs.Table.{column_at}
use Rattle.array_scan.specs.Laying.{taken}
use Rattle.array_scan.specs.Marks.{AreHeld}
use Rattle.array_scan.proofs.placing.hold_column.Given as goal

abbrev pub invariant-loop-file : goal.invariant-loop-file
invariant-loop-file l = (l.list ≡ taken (column_at l.old.columns l.d).records (take l.file-index l.files)) × AreHeld l.held l.list
