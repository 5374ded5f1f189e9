use Rattle.std.proofs.Common.{◌≡◌, map, take}
use Rattle.snap_exercise.specs.Generated.{disk_of}
use Rattle.snap_exercise.proofs.array.disks.Given as goal

abbrev pub invariant-loop-word : goal.invariant-loop-word
invariant-loop-word l = l.disks.items ≡ map (λ word. disk_of word.now) (take l.word-index l.words)
