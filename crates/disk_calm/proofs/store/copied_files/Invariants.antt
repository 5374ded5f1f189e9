use Rattle.std.proofs.Common.{◌≡◌, take}
use Rattle.disk_calm.proofs.store.copied_files.Given as goal

abbrev pub invariant-loop-file : goal.invariant-loop-file
invariant-loop-file l = l.copied.items ≡ take l.file-index l.files.items
