use Rattle.std.proofs.Common.{◌++◌, arith}
use Rattle.md5.specs.Md5.{padded_message}
use Rattle.md5_lanes.proofs.MessageLemmas.{part_is}
use Rattle.md5_lanes.proofs.padding.edge.Goals as goal

pub returns : goal.returns
returns c =
    part_is (padded_message (c.args.seed.now ++ c.args.block.now)) c.bytes.out c.args.at c.bytes.invariant.0 c.requires.within
    (λ j h. c.bytes.invariant.1 j (omega arith))
