use Rattle.std.proofs.Common.{refl, ◌∙◌, ◌<◌, length, List, ℕ, subst, arith}
use Rattle.std.proofs.lemmas.List.{take_all}
use Rattle.std.proofs.lemmas.List.Elements.{All-set}
use Rattle.stripe_examiner.specs.MarkedWindow.{AsksForMarked}
use Rattle.stripe_examiner.specs.Surveyed.{plan_in}
use Rattle.stripe_examiner.specs.Room.{IsStripeRoomFor}
use Rattle.stripe_examiner.proofs.AskingLemmas.{is_for_still}
use Rattle.stripe_examiner.proofs.MarkSteps.{as_large_start, as_large_then, asks_more, asks_none, levels_kept, marked_more}
use Rattle.stripe_examiner.proofs.marking_window.mark_stripes.Goals as goal

pub loop-i-init : goal.loop-i-init
loop-i-init g c = record {
  rooms = c.requires.rooms.each;
  levels = λ k other. refl;
  large = as_large_start _;
  later = λ k d le. refl;
  marked = λ k other below. absurd (omega (arith, below));
  asks = asks_none _ _ _ _ _;
}

pub mark_stripe-requires-clause-spare : goal.mark_stripe-requires-clause-spare
mark_stripe-requires-clause-spare g c =
    is_for_still c.args.survey.now.plan.table.now.shape (g.P.Spare.holding c.args.spare.now) (g.P.Spare.holding c.loop-i.spare) c.loop-i.invariant.asks.asked.same c.requires.spare

pub loop-i-preserved : goal.loop-i-preserved
loop-i-preserved g c =
    let plan = plan_in c.args.survey.now in
    let i = c.loop-i.i in
    let so_far = c.loop-i.invariant in
    let one = c.mark_stripe.ensures in
    let own = c.mark_stripe.new.own in
    let before = c.args.window.now in
    let mid = c.loop-i.window in
    let new = c.mark_stripe.new.window in
    let within : i < length c.args.survey.now.stripes.now = omega (arith, c.requires.can.number, c.count-i-end.ensures, c.loop-i-test.true) in
    let many : i < length c.loop-i.rooms = omega (arith, within, c.loop-i.auto.rooms, c.requires.rooms.as_many) in
    let same = λ (d : ℕ). so_far.later i d (omega arith) in
    record {
      rooms = All-set (IsStripeRoomFor c.args.survey.now.plan.table.now) c.loop-i.rooms i own one.marks.room so_far.rooms;
      levels = levels_kept i c.loop-i.rooms c.args.rooms.now own c.index-rooms-k.result many one.marks.levels so_far.levels;
      large = as_large_then i before mid new so_far.large one.marks.changes;
      later = λ k d le. one.marks.changes.others k d (λ is. omega (arith, le, is)) ∙ so_far.later k d (omega (arith, le));
      marked = marked_more plan c.args.survey.now.stripes.now i c.loop-i.rooms own before mid new many one.marks.changes same so_far.marked one.marks.marked;
      asks = asks_more plan c.args.survey.now.stripes.now i c.loop-i.rooms own before mid new _ _ _ within many one.marks.changes so_far.large.lanes same one.marks.marked.cells one.asks so_far.asks;
    }

pub returns-clause-asks : goal.returns-clause-asks
returns-clause-asks g c =
    subst (λ (numbers : List ℕ). AsksForMarked (plan_in c.args.survey.now) numbers c.args.window.now c.loop-i.window c.loop-i.rooms
    (g.P.Spare.holding c.args.spare.now) (g.P.Spare.holding c.loop-i.spare))
    (take_all c.loop-i.i c.args.survey.now.stripes.now (omega (arith, c.requires.can.number, c.count-i-end.ensures, c.loop-i-test.false))) c.loop-i.invariant.asks

pub returns-clause-marks : goal.returns-clause-marks
returns-clause-marks g c =
    let so_far = c.loop-i.invariant in
    record {
      rooms_are = record { as_many = c.loop-i.auto.rooms ∙ c.requires.rooms.as_many; each = so_far.rooms };
      levels = λ k other below. so_far.levels k other;
      large = so_far.large;
      marked = λ k other below. so_far.marked k other (omega (arith, below, c.requires.can.number, c.count-i-end.ensures, c.loop-i-test.false));
    }
