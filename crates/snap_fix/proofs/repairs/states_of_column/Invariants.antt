use Rattle.std.proofs.Common.{◌≡◌, map, take}
use Rattle.file_restorer.specs.State.{first_state}
use Rattle.snap_fix.proofs.repairs.states_of_column.Given as goal

abbrev pub invariant-loop-i : goal.invariant-loop-i
invariant-loop-i l = l.states.items ≡ map first_state (take l.i l.starts)
