use Rattle.std.proofs.Common.{◌*◌, length, drop, ◌∙◌}
use Rattle.stripe_examiner.proofs.SearchAccepted.{follows_at, length-solved, solved_as}
use Rattle.stripe_examiner.proofs.search.follow.Goals as goal

pub returns-clause-blocks : goal.returns-clause-blocks
returns-clause-blocks c =
    let shape = c.args.shape in
    let wanteds = c.args.wanted.now in
    let remainders = c.args.remainders.now in
    let choice = c.args.choice.now in
    let blocks = c.solve.new.work in
    let solved = solved_as wanteds shape.block_size remainders choice c.deref.result.now c.copy_chosen.new.out blocks
    (c.deref.ensures.0 ∙ c.columns.ensures) c.copy_chosen.ensures c.solve.ensures.solution in
    let long = length-solved wanteds shape.block_size remainders choice blocks c.requires.choice c.requires.room.remainder_bytes solved in
    follows_at shape wanteds remainders choice blocks solved long (drop (length wanteds * shape.block_size) c.args.work.now)
