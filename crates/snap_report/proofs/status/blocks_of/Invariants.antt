use Rattle.std.proofs.Common.{◌≡◌, ◌≤◌, ◌*◌, ◌^◌, length, take}
use Rattle.std.specs.List.{flat_map}
use Rattle.file_table.specs.Table.{Record, column_at}
use Rattle.snap_report.proofs.status.blocks_of.Given as goal

abbrev pub invariant-loop-rec : goal.invariant-loop-rec
invariant-loop-rec l = record {
  so_far : l.blocks ≡ length (flat_map (λ (kept : Record). kept.blocks) (take l.rec (column_at l.table.columns l.disk).records));
  bound : l.blocks ≤ l.rec * 2 ^ 64;
}
