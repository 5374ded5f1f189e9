use Rattle.std.proofs.Common.{◌≡◌, take, map}
use Rattle.snap_top.specs.Array.{empty_column}
use Rattle.snap_top.proofs.empty.build.Given as goal

abbrev pub invariant-loop-disk : goal.invariant-loop-disk
invariant-loop-disk l = l.builder ≡ record l.initial.builder { columns = map empty_column (take l.disk-index l.disk-items) }
