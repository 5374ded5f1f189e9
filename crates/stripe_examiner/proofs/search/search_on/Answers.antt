use Rattle.std.proofs.Common.{◌*◌, length, arith}
use Rattle.std.proofs.lemmas.List.{length-take}
use Rattle.stripe_examiner.proofs.FirstLemmas.{blocks_within, digests_cut, few_first, found_first}
use Rattle.stripe_examiner.proofs.search.search_on.Goals as goal

pub overflow_mul-blocks : goal.overflow_mul-blocks
overflow_mul-blocks c =
    let most = blocks_within c.args.shape.block_size c.args.wanted.now c.args.levels.now c.requires.levels (c.requires.ready.made c.if-first.true).enough in
    omega (arith, most, c.requires.room.at_most)

pub slice_bounds-blocks-end : goal.slice_bounds-blocks-end
slice_bounds-blocks-end c =
    let most = blocks_within c.args.shape.block_size c.args.wanted.now c.args.levels.now c.requires.levels (c.requires.ready.made c.if-first.true).enough in
    omega (arith, most, c.requires.room.work_bytes)

pub slice_bounds-blocks-end-then-first : goal.slice_bounds-blocks-end-then-first
slice_bounds-blocks-end-then-first c =
    let most = blocks_within c.args.shape.block_size c.args.wanted.now c.args.levels.now c.requires.levels (c.requires.ready.made c.if-first.true).enough in
    omega (arith, most, c.requires.room.work_bytes, length-take (length c.args.wanted.now * c.args.shape.block_size) c.args.work.now)

pub are_right-requires-clause-few : goal.are_right-requires-clause-few
are_right-requires-clause-few c = few_first c.args.wanted.now c.args.levels.now c.requires.levels (c.requires.ready.made c.if-first.true).enough

pub are_right-requires-clause-blocks : goal.are_right-requires-clause-blocks
are_right-requires-clause-blocks c =
    let size = c.args.shape.block_size in
    let most = blocks_within size c.args.wanted.now c.args.levels.now c.requires.levels (c.requires.ready.made c.if-first.true).enough in
    record {
      at_most = c.requires.room.at_most;
      lengths = c.requires.room.lengths;
      bytes = omega (arith, most, c.requires.room.work_bytes, length-take (length c.args.wanted.now * size) c.args.work.now);
    }

pub are_right-requires-clause-digests : goal.are_right-requires-clause-digests
are_right-requires-clause-digests c =
    digests_cut c.args.shape (length c.args.wanted.now) c.args.work.now c.args.first.now.digests
    (few_first c.args.wanted.now c.args.levels.now c.requires.levels (c.requires.ready.made c.if-first.true).enough) c.requires.ready.digests

pub returns-then-are_right-clause-found : goal.returns-then-are_right-clause-found
returns-then-are_right-clause-found c found =
    found_first c.args.shape c.args.wanted.now c.args.remainders.now c.args.levels.now c.args.work.now (c.requires.ready.made c.if-first.true)
    (c.are_right.ensures.0 c.if-are_right.true)
