use Rattle.std.proofs.Common.{◌≡◌, []}
use Rattle.stripe_reader_tests.proofs.tests.scene.table.Given as goal

abbrev pub invariant-loop-d : goal.invariant-loop-d
invariant-loop-d l = l.builder.infos ≡ []
