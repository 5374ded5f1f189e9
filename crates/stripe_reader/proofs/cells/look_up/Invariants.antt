use Rattle.std.proofs.Common.{ℕ, ◌<◌, [], length, get_or}
use Rattle.stripe_reader.specs.LookedUp.{IsLookedUp}
use Rattle.stripe_reader.specs.WindowValue.{HasCellRoom}
use Rattle.stripe_reader.proofs.cells.look_up.Given as goal

abbrev pub invariant-loop-d : goal.invariant-loop-d
invariant-loop-d l = record {
  room : HasCellRoom (length l.table.columns) l.room l.cells;
  each : (k : ℕ) → k < l.d → IsLookedUp l.table k l.stripes (get_or l.cells k []);
}
