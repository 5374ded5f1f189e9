use Rattle.std.proofs.Common.{arith, ◌*◌, ◌++◌, ◌∙◌, ap, refl, take, drop}
use Rattle.md5.specs.Md5.{hash_after, padded_message}
use Rattle.md5_lanes.specs.Lanes.{lane, bytes_of}
use Rattle.md5_lanes.proofs.MessageLemmas.{next_block}
use Rattle.md5_lanes.proofs.advance_to.Goals as goal

pub chunks-preserved : goal.chunks-preserved
chunks-preserved c = λ i lt held.
    let p = padded_message (c.args.seed.now ++ bytes_of c.args.blocks.now i) in
    let b = take 64 (drop (64 * c.chunks.k) p) in
    c.advance-s.ensures i lt ∙ next_block p (lane c.chunks.s i) b c.chunks.k (c.chunks.invariant i lt held) refl

pub returns : goal.returns
returns c = λ i lt held.
    c.chunks.invariant i lt held ∙ ap (hash_after (padded_message (c.args.seed.now ++ bytes_of c.args.blocks.now i))) (omega arith)
