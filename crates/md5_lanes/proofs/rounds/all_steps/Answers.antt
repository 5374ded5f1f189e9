use Rattle.md5_lanes.proofs.rounds.all_steps.Goals as goal

pub returns : goal.returns
returns c = λ h i lt held.
    let s1 = c.four_steps-v.ensures h i lt held in
    let s2 = c.four_steps-v-2.ensures h i lt s1 in
    let s3 = c.four_steps-v-3.ensures h i lt s2 in
    let s4 = c.four_steps-v-4.ensures h i lt s3 in
    let s5 = c.four_steps-v-5.ensures h i lt s4 in
    let s6 = c.four_steps-v-6.ensures h i lt s5 in
    let s7 = c.four_steps-v-7.ensures h i lt s6 in
    let s8 = c.four_steps-v-8.ensures h i lt s7 in
    let s9 = c.four_steps-v-9.ensures h i lt s8 in
    let s10 = c.four_steps-v-10.ensures h i lt s9 in
    let s11 = c.four_steps-v-11.ensures h i lt s10 in
    let s12 = c.four_steps-v-12.ensures h i lt s11 in
    let s13 = c.four_steps-v-13.ensures h i lt s12 in
    let s14 = c.four_steps-v-14.ensures h i lt s13 in
    let s15 = c.four_steps-v-15.ensures h i lt s14 in
    c.four_steps.ensures h i lt s15
