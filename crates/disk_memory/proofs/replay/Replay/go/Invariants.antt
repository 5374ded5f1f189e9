use Rattle.std.proofs.Common.{◌≡◌, take}
use Rattle.disk_model.specs.Machine.{replay}
use Rattle.disk_memory.specs.Calls.{vault_calls}
use Rattle.disk_memory.proofs.replay.Replay.go.Given as goal

abbrev pub invariant-loop-made : goal.invariant-loop-made
invariant-loop-made l = l.self ≡ replay l.initial.self (vault_calls (take l.made-index l.entries))
