use Rattle.std.proofs.Common.{◌≡◌, map, take}
use Rattle.snap_exercise.specs.Generated.{column_of}
use Rattle.snap_exercise.proofs.array.build.Given as goal

-- the disks so far are pushed
abbrev pub invariant-loop-name : goal.invariant-loop-name
invariant-loop-name l = l.builder ≡ record l.initial.builder { columns = map (λ name. column_of name.now) (take l.name-index l.names) }
