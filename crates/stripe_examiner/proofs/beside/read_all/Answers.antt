use Rattle.std.proofs.Common.{◌<◌, arith}
use Rattle.stripe_examiner.proofs.StripeLemmas.{read_has_room}
use Rattle.stripe_examiner.proofs.beside.read_all.Goals as goal

pub returns-clause-room : goal.returns-clause-room
returns-clause-room g c =
    let some : 0 < c.args.levels.now.block_size = omega (arith, c.requires.size, c.shape-shape.ensures.valid.shape.block_size.least) in
    read_has_room _ _ _ _ _ _ some c.read_levels.ensures.read
