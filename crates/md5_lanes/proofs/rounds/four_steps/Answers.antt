use Rattle.std.proofs.Common.{ap, ◌∙◌, arith}
use Rattle.md5.specs.Md5.{rounds}
use Rattle.md5_lanes.specs.Lanes.{lane_words}
use Rattle.md5_lanes.proofs.rounds.four_steps.Goals as goal

pub returns : goal.returns
returns c = λ h i lt held.
    let after = rounds h (lane_words c.args.words.now i) in
    let s1 = c.step-v.ensures h i lt held in
    let s2 = c.step-v-2.ensures h i lt s1 in
    let s3 = c.step-v-3.ensures h i lt (s2 ∙ ap after (omega arith)) in
    c.step.ensures h i lt (s3 ∙ ap after (omega arith)) ∙ ap after (omega arith)
