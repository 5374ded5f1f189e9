use Rattle.std.proofs.Common.{◌≡◌, max, take}
use Rattle.file_table.specs.Table.{end_of}
use Rattle.array_scan.proofs.building.end_of_given.Given as goal

abbrev pub invariant-loop-position : goal.invariant-loop-position
invariant-loop-position l = l.end ≡ max l.fn.end (end_of (take l.position-index l.positions))
