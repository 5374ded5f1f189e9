use Rattle.std.proofs.Common.{◌≡◌}
use Rattle.disk_memory.specs.Choice.{mixed}
use Rattle.disk_memory.proofs.replay.Level.mixed.Given as goal

abbrev pub invariant-loop-place : goal.invariant-loop-place
invariant-loop-place l = l.image.items ≡ mixed l.self l.place l.bytes
