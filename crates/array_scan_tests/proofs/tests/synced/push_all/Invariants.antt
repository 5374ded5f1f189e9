use Rattle.std.proofs.Common.{◌≡◌, ◌<◌, [], length}
use Rattle.array_scan_tests.proofs.tests.synced.push_all.Given as goal

abbrev pub invariant-loop-rec : goal.invariant-loop-rec
invariant-loop-rec l = record { before_infos : l.builder.infos ≡ []; column : 0 < length l.builder.columns }
