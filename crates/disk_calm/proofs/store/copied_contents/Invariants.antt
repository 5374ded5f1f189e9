use Rattle.std.proofs.Common.{◌≡◌, take}
use Rattle.disk_calm.proofs.store.copied_contents.Given as goal

abbrev pub invariant-loop-content : goal.invariant-loop-content
invariant-loop-content l = l.copied.items ≡ take l.content-index l.contents.items
