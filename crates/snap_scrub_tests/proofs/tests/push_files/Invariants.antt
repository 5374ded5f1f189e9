use Rattle.std.proofs.Common.{◌≡◌, ◌<◌, [], length}
use Rattle.snap_scrub_tests.proofs.tests.push_files.Given as goal

abbrev pub invariant-loop-number : goal.invariant-loop-number
invariant-loop-number l = record { before_infos : l.builder.infos ≡ []; column : 0 < length l.builder.columns }
