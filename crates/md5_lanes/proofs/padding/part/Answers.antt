use Rattle.std.proofs.Common.{◌≡◌, ◌+◌, ◌-◌, ◌∙◌, take, drop, sym, ap, arith}
use Rattle.md5_lanes.proofs.MessageLemmas.{middle_part}
use Rattle.md5_lanes.proofs.padding.part.Goals as goal

pub returns-then-at-block : goal.returns-then-at-block
returns-then-at-block c =
    let at = c.args.at in
    let block = c.args.block.now in
    let width : at + 48 - (at - 16) ≡ 64 = omega (arith, c.if-at-ge16.true) in
    c.copy_from_slice.ensures.after ∙ ap (λ n. take n (drop (at - 16) block)) width
    ∙ sym (middle_part c.args.seed.now block at c.told-seed c.if-at-ge16.true c.if-at-block.true)
