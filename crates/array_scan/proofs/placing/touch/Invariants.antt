use Rattle.std.proofs.Common.{ℕ, List, ◌++◌, take}
use Rattle.array_scan.specs.Marks.{AreTouched}
use Rattle.array_scan.proofs.placing.touch.Given as goal

abbrev pub invariant-loop-position : goal.invariant-loop-position
invariant-loop-position l = (touched : List ℕ) → AreTouched l.fn.marks touched → AreTouched l.marks (touched ++ take l.position-index l.positions)
