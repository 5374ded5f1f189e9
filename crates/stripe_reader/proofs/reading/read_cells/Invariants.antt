use Rattle.std.proofs.Common.{All, map, take}
use Rattle.stripe_reader.specs.Column.{ReadsColumn}
use Rattle.stripe_reader.specs.Hashing.{IsUnhashed, hashed}
use Rattle.stripe_reader.specs.Reading.{tasks_at}
use Rattle.stripe_reader.specs.WindowValue.{HasBlocks}
use Rattle.stripe_reader.proofs.reading.read_cells.Given as goal

abbrev pub invariant-loop-i : goal.invariant-loop-i
invariant-loop-i g l = record {
  blocks : HasBlocks l.table.shape.block_size l.slots;
  unhashed : All (IsUnhashed l.table.shape.block_size) (take l.i l.slots);
  read : ReadsColumn l.table.shape (tasks_at l.table l.starts l.d (take l.i l.stripes)) (map (hashed l.table.shape) (take l.i l.slots)) (g.F.Folder.view l.fn.folder) (g.F.Folder.view l.folder);
}
