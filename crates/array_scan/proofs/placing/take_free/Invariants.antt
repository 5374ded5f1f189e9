use Rattle.std.proofs.Common.{◌≡◌, ◌+◌}
use Rattle.std.specs.FinSet.{len}
use Rattle.array_scan.specs.Laying.{free_positions}
use Rattle.array_scan.proofs.PlacingLemmas.{filled}
use Rattle.array_scan.proofs.placing.take_free.Given as goal

abbrev pub invariant-loop : goal.invariant-loop
invariant-loop l = (l.list ≡ filled l.fn.list l.counter) × (l.free.items ≡ free_positions l.fn.list l.counter) × (len l.list ≡ len l.fn.list + l.counter)
