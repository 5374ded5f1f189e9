use Rattle.std.proofs.Common.{◌≡◌, ◌<◌, [], length}
use Rattle.file_table.specs.Building.{last_column}
use Rattle.array_scan_tests.proofs.tests.synced.push_hashed.Given as goal

abbrev pub invariant-loop-block : goal.invariant-loop-block
invariant-loop-block l = record {
  before_infos : l.builder.infos ≡ [];
  column : 0 < length l.builder.columns;
  rec : 0 < length (last_column l.builder.columns).records;
}
