use Rattle.std.proofs.Common.{◌≡◌, ◌<◌, [], length}
use Rattle.file_table.specs.Building.{last_column}
use Rattle.file_table_tests.proofs.tests.refused.push_blocks.Given as goal

abbrev pub invariant-loop-position : goal.invariant-loop-position
invariant-loop-position l = record {
  before_infos : l.builder.infos ≡ [];
  column : 0 < length l.builder.columns;
  rec : 0 < length (last_column l.builder.columns).records;
}
