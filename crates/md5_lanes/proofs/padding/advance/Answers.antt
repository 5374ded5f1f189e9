use Rattle.std.proofs.Common.{arith, ◌∙◌, ap, sym}
use Rattle.md5.specs.Md5.{compress}
use Rattle.md5_lanes.specs.Lanes.{lane, bytes_of}
use Rattle.md5_lanes.proofs.MessageLemmas.{bytes_at_least, middle_part}
use Rattle.md5_lanes.proofs.padding.advance.Goals as goal

pub returns-then-at-len : goal.returns-then-at-len
returns-then-at-len c = λ i lt.
    let block = bytes_of c.args.blocks.now i in
    let long = bytes_at_least c.args.blocks.now c.args.len i c.requires.length (omega (arith, c.told-blocks)) in
    c.compress.ensures i lt ∙ ap (compress (lane c.args.state i)) (sym (middle_part c.args.seed.now block c.args.at c.told-seed (omega arith) (omega (arith, long))))
