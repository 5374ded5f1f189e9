use Rattle.std.proofs.Common.{◌≡◌, ◌<◌, [], length}
use Rattle.file_table_tests.proofs.tests.refused.push_files.Given as goal

abbrev pub invariant-loop-file : goal.invariant-loop-file
invariant-loop-file l = record { before_infos : l.builder.infos ≡ []; column : 0 < length l.builder.columns }
