use Rattle.std.proofs.Common.{◌≡◌, ◌≤◌, ◌*◌, ◌^◌, take, length}
use Rattle.file_table.specs.Table.{records_of}
use Rattle.snap_report.specs.ListText.{bytes_in}
use Rattle.snap_report.proofs.totals.totals_of.Given as goal

abbrev pub invariant-loop-d : goal.invariant-loop-d
invariant-loop-d l = record {
  files : l.totals.files ≡ length (records_of (take l.d l.table.columns));
  bound : l.totals.bytes ≤ l.totals.files * 2 ^ 64;
  bytes : l.totals.bytes ≡ bytes_in (records_of (take l.d l.table.columns));
}
