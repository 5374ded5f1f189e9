use Rattle.std.proofs.Common.{◌≡◌, map, take}
use Rattle.disk_model.specs.Machine.{settled}
use Rattle.disk_memory.proofs.replay.opened_copies.Given as goal

abbrev pub invariant-loop-content : goal.invariant-loop-content
invariant-loop-content l = l.copies.items ≡ map settled (take l.content-index l.contents.items)
