use Rattle.std.proofs.Common.{◌≡◌, All, length}
use Rattle.stripe_reader.specs.WindowValue.{IsCellLane, IsLane}
use Rattle.stripe_reader.proofs.window.Window.make.Given as goal

abbrev pub invariant-loop : goal.invariant-loop
invariant-loop l =
    (length l.lanes.items ≡ l.counter) × All (IsLane l.block_size l.stripes) l.lanes.items
    × (length l.cells.items ≡ l.counter) × All (IsCellLane l.stripes) l.cells.items
