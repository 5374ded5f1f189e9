use Rattle.std.proofs.Common.{◌+◌, ◌<◌, length, sym, subst, arith}
use Rattle.stripe_examiner.specs.FirstChoice.{MakesFirst}
use Rattle.stripe_examiner.specs.Judged.{CanJudge}
use Rattle.stripe_examiner.specs.MarkedWindow.{number_at}
use Rattle.stripe_examiner.specs.Surveyed.{plan_in}
use Rattle.stripe_examiner.proofs.FirstRooms.{changes_more, changes_none}
use Rattle.stripe_examiner.proofs.first_choice.make_first_blocks.Goals as goal

pub loop-k-init : goal.loop-k-init
loop-k-init c = changes_none _ c.args.rooms.now

pub make-requires-clause-can : goal.make-requires-clause-can
make-requires-clause-can c =
    let i = c.args.start + c.loop-k.k in
    let none = c.index-rooms-k.result in
    let within : c.loop-k.k < length c.args.rooms.now = omega (arith, c.loop-k.auto.rooms) in
    subst (CanJudge (plan_in c.args.survey.now) (number_at c.args.survey.now.stripes.now i) i c.args.window.now)
    (sym (c.loop-k.invariant.later c.loop-k.k none (omega arith))) (c.requires.can c.loop-k.k none within)

pub loop-k-preserved : goal.loop-k-preserved
loop-k-preserved c =
    changes_more (λ k. MakesFirst (plan_in c.args.survey.now) (number_at c.args.survey.now.stripes.now (c.args.start + k)) (c.args.start + k) c.args.window.now)
    c.loop-k.k c.args.rooms.now c.loop-k.rooms c.index-rooms-k.result c.make.new.own (omega arith) c.make.ensures c.loop-k.invariant

pub returns : goal.returns
returns c k other below = c.loop-k.invariant.changed k other (omega (arith, below, c.loop-k-test.false, c.loop-k.auto.rooms))
