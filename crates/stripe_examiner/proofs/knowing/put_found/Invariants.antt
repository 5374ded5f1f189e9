use Rattle.std.proofs.Common.{◌≡◌, take}
use Rattle.parity_writer.specs.WindowRow.{row_at}
use Rattle.stripe_examiner.specs.Restorable.{filled}
use Rattle.stripe_examiner.specs.Knowing.{KeepsOtherColumns}
use Rattle.stripe_examiner.specs.Marks.{ChangesStripe}
use Rattle.stripe_examiner.proofs.knowing.put_found.Given as goal

-- the blocks so far are put
abbrev pub invariant-loop-j : goal.invariant-loop-j
invariant-loop-j l = record {
  row : row_at l.window l.i ≡ filled l.size l.blocks (take l.j l.wanted) (row_at l.fn.window l.i);
  changes : ChangesStripe l.i l.fn.window l.window;
  others : KeepsOtherColumns l.i (take l.j l.wanted) l.fn.window l.window;
}
