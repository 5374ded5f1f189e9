use Rattle.std.proofs.Common.{ℕ, List, ◌++◌, take}
use Rattle.file_table.specs.Table.{positions_of}
use Rattle.array_scan.specs.Marks.{AreTouched}
use Rattle.array_scan.proofs.PlacingLemmas.{unheld}
use Rattle.array_scan.proofs.placing.touch_freed.Given as goal

abbrev pub invariant-loop-block : goal.invariant-loop-block
invariant-loop-block l =
    (touched : List ℕ) → AreTouched l.fn.marks touched → AreTouched l.marks (touched ++ unheld l.held (positions_of (take l.block-index l.blocks)))
