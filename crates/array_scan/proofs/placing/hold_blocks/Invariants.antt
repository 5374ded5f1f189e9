use Rattle.std.proofs.Common.{◌≡◌, ℕ, List, ◌++◌, take, drop}
use Rattle.std.specs.FinSet.{from_list}
use Rattle.file_table.specs.Table.{positions_of}
use Rattle.array_scan.specs.Marks.{AreHeld, AreFree}
use Rattle.array_scan.proofs.placing.hold_blocks.Given as goal

abbrev pub invariant-loop-block : goal.invariant-loop-block
invariant-loop-block l =
    ((positions : List ℕ) → l.fn.list ≡ from_list positions → l.list ≡ from_list (positions ++ positions_of (take l.block-index l.blocks)))
    × AreHeld l.held l.list × AreFree l.list (drop l.block-index l.blocks)
