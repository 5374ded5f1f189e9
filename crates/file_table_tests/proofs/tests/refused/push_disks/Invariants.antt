use Rattle.std.proofs.Common.{◌≡◌, []}
use Rattle.file_table_tests.proofs.tests.refused.push_disks.Given as goal

abbrev pub invariant-loop-name : goal.invariant-loop-name
invariant-loop-name l = record { before_infos : l.builder.infos ≡ [] }
