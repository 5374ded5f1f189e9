use Rattle.std.proofs.Common.{◌≡◌, replicate, None}
use Rattle.disk_calm.proofs.store.absent_copies.Given as goal

abbrev pub invariant-loop : goal.invariant-loop
invariant-loop l = l.copies.items ≡ replicate l.counter None
