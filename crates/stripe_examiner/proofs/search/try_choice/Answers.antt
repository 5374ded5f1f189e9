use Rattle.std.proofs.Common.{◌∙◌, sym}
use Rattle.std.proofs.lemmas.Bool.{false≢true}
use Rattle.stripe_examiner.specs.Search.{found_in}
use Rattle.stripe_examiner.proofs.SearchAccepted.{acceptable_right, length-solved}
use Rattle.stripe_examiner.proofs.search.try_choice.Goals as goal

pub returns-clause-found : goal.returns-clause-found
returns-clause-found c is_right = record { solves = c.follow.ensures.blocks; right = c.are_right.ensures.0 is_right }

pub returns-clause-none : goal.returns-clause-none
returns-clause-none c is_wrong some =
    let shape = c.args.shape in
    let wanteds = c.args.wanted.now in
    let remainders = c.args.remainders.now in
    let choice = c.args.choice.now in
    let blocks = found_in shape wanteds c.follow.new.work in
    let long = length-solved wanteds shape.block_size remainders choice blocks c.requires.choice c.requires.room.remainder_bytes c.follow.ensures.blocks in
    let right = acceptable_right shape wanteds remainders choice blocks c.follow.ensures.blocks long c.one_solution.ensures.only c.requires.choice some in
    false≢true (sym is_wrong ∙ c.are_right.ensures.1 right)
