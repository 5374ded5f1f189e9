use Rattle.std.proofs.Common.{◌≡◌, max, take}
use Rattle.file_table.specs.Table.{positions_of, end_of}
use Rattle.array_scan.proofs.building.end_of_kept.Given as goal

abbrev pub invariant-loop-block : goal.invariant-loop-block
invariant-loop-block l = l.end ≡ max l.fn.end (end_of (positions_of (take l.block-index l.blocks)))
