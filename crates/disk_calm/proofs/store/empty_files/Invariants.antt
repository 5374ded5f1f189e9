use Rattle.std.proofs.Common.{◌≡◌, [], replicate}
use Rattle.disk_calm.proofs.store.empty_files.Given as goal

abbrev pub invariant-loop : goal.invariant-loop
invariant-loop l = l.files.items ≡ replicate l.counter []
