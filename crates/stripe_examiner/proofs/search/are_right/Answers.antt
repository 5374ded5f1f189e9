use Rattle.std.proofs.Common.{◌≡◌, ◌+◌, ◌-◌, ◌*◌, ℕ, take, drop, sym, ◌∙◌, ap, arith}
use Rattle.block_hash.specs.Hash.{hash}
use Rattle.stripe_examiner.proofs.search.are_right.Goals as goal

pub is_right-requires-clause-made : goal.is_right-requires-clause-made
is_right-requires-clause-made c = λ whole is.
    let size = c.args.shape.block_size in
    let start = c.loop-j.j * size in
    let many : start + size - start ≡ size = omega arith in
    c.requires.digests c.loop-j.j whole c.loop-j-test.true is
    ∙ ap (λ (n : ℕ). hash c.args.shape.kind c.args.shape.seed (take n (drop start c.args.blocks.now))) (sym many)
