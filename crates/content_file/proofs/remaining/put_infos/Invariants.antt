use Rattle.std.proofs.Common.{◌≡◌, ◌≤◌, ◌*◌, length, take, drop}
use Rattle.std.specs.List.{flat_map}
use Rattle.content_file.specs.Spelling.{info_bytes}
use Rattle.content_file.proofs.remaining.put_infos.Given as goal

abbrev pub invariant-loop-k : goal.invariant-loop-k
invariant-loop-k l = record {
  put : l.field.items ≡ flat_map info_bytes (take l.k (drop l.first l.table.infos));
  few : length l.field.items ≤ 9 * l.k;
  some : l.k ≤ length l.field.items;
}
