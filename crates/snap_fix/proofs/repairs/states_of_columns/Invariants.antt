use Rattle.std.proofs.Common.{◌≡◌, map, take}
use Rattle.file_restorer.specs.State.{first_state}
use Rattle.snap_fix.proofs.repairs.states_of_columns.Given as goal

abbrev pub invariant-loop-d : goal.invariant-loop-d
invariant-loop-d l = map (λ column. column.items) l.states.items ≡ map (λ column. map first_state column.items) (take l.d l.starts)
