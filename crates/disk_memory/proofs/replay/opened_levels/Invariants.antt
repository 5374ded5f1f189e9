use Rattle.std.proofs.Common.{◌≡◌, map, take}
use Rattle.disk_model.specs.Unsynced.{synced}
use Rattle.disk_memory.proofs.replay.opened_levels.Given as goal

abbrev pub invariant-loop-file : goal.invariant-loop-file
invariant-loop-file l = l.levels.items ≡ map synced (take l.file-index l.files.items)
