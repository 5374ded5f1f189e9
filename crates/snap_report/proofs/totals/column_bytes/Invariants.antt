use Rattle.std.proofs.Common.{◌≡◌, ◌≤◌, ◌*◌, ◌^◌, take}
use Rattle.file_table.specs.Table.{column_at}
use Rattle.snap_report.specs.ListText.{bytes_in}
use Rattle.snap_report.proofs.totals.column_bytes.Given as goal

abbrev pub invariant-loop-i : goal.invariant-loop-i
invariant-loop-i l = record {
  so_far : l.bytes ≡ bytes_in (take l.i (column_at l.table.columns l.d).records);
  bound : l.bytes ≤ l.i * 2 ^ 64;
}
