use Rattle.std.proofs.Common.{◌<◌, get_or, arith}
use Rattle.stripe_examiner.proofs.SearchBlocks.{place_within}
use Rattle.stripe_examiner.proofs.search.copy_chosen.Goals as goal

pub slice_bounds-copy_from_slice-end-in-loop-i : goal.slice_bounds-copy_from_slice-end-in-loop-i
slice_bounds-copy_from_slice-end-in-loop-i c =
    let size = c.args.shape.block_size in
    let i = c.loop-i.i in
    let level = get_or c.args.choice.now i 0 in
    let known : level < 6 = c.requires.levels i 0 c.loop-i-test.true in
    let within = place_within size 6 level known in
    omega (arith, within, c.requires.remainders)
