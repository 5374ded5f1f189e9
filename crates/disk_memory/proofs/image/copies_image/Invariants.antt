use Rattle.std.proofs.Common.{◌≡◌, take}
use Rattle.disk_memory.specs.Choice.{copies_image, after_copies}
use Rattle.disk_memory.proofs.image.copies_image.Given as goal

abbrev pub invariant-loop-copy : goal.invariant-loop-copy
invariant-loop-copy l = (l.images.items ≡ copies_image (take l.copy-index l.copies) l.choice) × (l.rest ≡ after_copies (take l.copy-index l.copies) l.choice)
