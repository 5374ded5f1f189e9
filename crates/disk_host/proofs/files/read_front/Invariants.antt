use Rattle.std.proofs.Common.{◌≤◌, length}
use Rattle.disk_host.proofs.files.read_front.Given as goal

abbrev pub invariant-loop : goal.invariant-loop
invariant-loop g l = l.filled ≤ length l.out
