use Rattle.std.proofs.Common.{◌%◌, arith}
use Rattle.stripe_examiner.proofs.SearchBlocks.{place_within}
use Rattle.stripe_examiner.proofs.hashing.block_at.Goals as goal

pub overflow_mul-start : goal.overflow_mul-start
overflow_mul-start c =
    let place = place_within c.args.size 6 (c.args.at % 6) (omega arith) in
    omega (arith, place, c.requires.most)
