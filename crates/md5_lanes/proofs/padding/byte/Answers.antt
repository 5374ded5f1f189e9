use Rattle.std.proofs.Common.{◌+◌, ◌-◌, ◌%◌, length, slice_index, ap, ◌∙◌, arith}
use Rattle.md5_lanes.proofs.MessageLemmas.{length_byte}
use Rattle.md5_lanes.proofs.padding.byte.Goals as goal

pub returns-then-at-start-2 : goal.returns-then-at-start-2
returns-then-at-start-2 c =
    let n = length c.args.block.now in
    let k = c.args.at - (16 + n + 1 + (119 - (16 + n) % 64) % 64) in
    ap (λ x. slice_index x k) c.to_le_bytes-bits.ensures ∙ length_byte c.args.seed.now c.args.block.now c.args.at c.told-seed c.requires (omega arith)
