use Rattle.std.proofs.Common.{◌≡◌, take}
use Rattle.array_scan.specs.Laying.{bare}
use Rattle.file_table.specs.Pushing.{with_blocks}
use Rattle.array_scan.proofs.building.push_bare.Given as goal

abbrev pub invariant-loop-position : goal.invariant-loop-position
invariant-loop-position l = l.builder ≡ record l.fn.builder { columns = with_blocks l.fn.builder.columns (bare (take l.position-index l.positions)) }
