use Rattle.std.proofs.Common.{arith}
use Rattle.file_table.proofs.IndexLemmas.{spots_more}
use Rattle.file_table.proofs.index.spots_of.Goals as goal

pub loop-place-preserved : goal.loop-place-preserved
loop-place-preserved c = rw (c.in_ok-push.ensures.items, c.loop-place.invariant) (spots_more c.args.blocks.now c.loop-place.place (omega arith))
