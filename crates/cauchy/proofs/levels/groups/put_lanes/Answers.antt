use Rattle.std.proofs.Common.{arith}
use Rattle.cauchy.proofs.LevelsLemmas.{FillsWithin-none, FillsWithin-more, FillsWithin-all}
use Rattle.cauchy.proofs.levels.groups.put_lanes.Goals as goal

pub loop-r-init : goal.loop-r-init
loop-r-init g c = λ row holds. FillsWithin-none c.args.start _ g.row.N c.args.size row c.args.out.now

pub loop-r-preserved : goal.loop-r-preserved
loop-r-preserved g c =
    λ row holds.
    FillsWithin-more c.args.start c.args.width c.args.size c.loop-r.r g.row.N row c.args.out.now c.loop-r.out c.store_some.new.out _ c.requires.place c.store_some.ensures
    (λ k h. (holds.each c.loop-r.r c.loop-r-test.true).each k (omega (arith, h, c.requires.width))) (c.loop-r.invariant row holds)

pub returns : goal.returns
returns g c = λ row holds. FillsWithin-all c.args.start _ c.loop-r.r g.row.N c.args.size row c.args.out.now c.loop-r.out c.loop-r-test.false (c.loop-r.invariant row holds)
