use Rattle.std.proofs.Common.{◌≡◌, ◌<◌, [], length}
use Rattle.snap_report_tests.proofs.tests.pages.push_files.Given as goal

abbrev pub invariant-loop-number : goal.invariant-loop-number
invariant-loop-number l = record { before_infos : l.builder.infos ≡ []; column : 0 < length l.builder.columns }
