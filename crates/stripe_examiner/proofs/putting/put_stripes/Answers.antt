use Rattle.std.proofs.Common.{◌<◌, length, get_or, refl, sym, ◌∙◌, subst, arith}
use Rattle.std.proofs.lemmas.List.{get_or_default}
use Rattle.stripe_examiner.specs.Judged.{CanJudge, JudgesStripe}
use Rattle.stripe_examiner.specs.MarkedWindow.{PutsStripe, number_at}
use Rattle.stripe_examiner.specs.Surveyed.{plan_in}
use Rattle.stripe_examiner.proofs.MarkSteps.{as_large_start, as_large_then, can_same, judges_same, put_more}
use Rattle.stripe_examiner.proofs.putting.put_stripes.Goals as goal

pub loop-i-init : goal.loop-i-init
loop-i-init c = record {
  large = as_large_start _;
  later = λ k d le. refl;
  put = λ k other below. absurd (omega (arith, below));
}

pub put_stripe-requires-clause-can : goal.put_stripe-requires-clause-can
put_stripe-requires-clause-can c =
    let plan = plan_in c.args.survey.now in
    let i = c.loop-i.i in
    let so_far = c.loop-i.invariant in
    let within : i < length c.args.survey.now.stripes.now = omega (arith, c.requires.number, c.count-i-end.ensures, c.loop-i-test.true) in
    let own = c.index-rooms-k.result in
    subst (CanJudge plan (number_at c.args.survey.now.stripes.now i) i c.loop-i.window) (sym c.index-rooms-k.is)
    (can_same plan (number_at c.args.survey.now.stripes.now i) i c.args.window.now c.loop-i.window (get_or c.args.rooms.now i own) (λ d. so_far.later i d (omega arith)) so_far.large (c.requires.can i own within))

pub put_stripe-requires-clause-judged : goal.put_stripe-requires-clause-judged
put_stripe-requires-clause-judged c =
    let plan = plan_in c.args.survey.now in
    let i = c.loop-i.i in
    let so_far = c.loop-i.invariant in
    let within : i < length c.args.survey.now.stripes.now = omega (arith, c.requires.number, c.count-i-end.ensures, c.loop-i-test.true) in
    let own = c.index-rooms-k.result in
    subst (JudgesStripe plan (number_at c.args.survey.now.stripes.now i) i c.loop-i.window) (sym c.index-rooms-k.is)
    (judges_same plan (number_at c.args.survey.now.stripes.now i) i c.args.window.now c.loop-i.window (get_or c.args.rooms.now i own) (λ d. so_far.later i d (omega arith)) so_far.large.lanes (c.requires.judged i own within))

pub loop-i-preserved : goal.loop-i-preserved
loop-i-preserved c =
    let plan = plan_in c.args.survey.now in
    let i = c.loop-i.i in
    let so_far = c.loop-i.invariant in
    let one = c.put_stripe.ensures in
    let before = c.args.window.now in
    let mid = c.loop-i.window in
    let new = c.put_stripe.new.window in
    let rooms = c.args.rooms.now in
    let own = c.index-rooms-k.result in
    let within : i < length rooms = omega (arith, c.requires.number, c.requires.count, c.count-i-end.ensures, c.loop-i-test.true) in
    record {
      large = as_large_then i before mid new so_far.large one.changes;
      later = λ k d le. one.changes.others k d (λ is. omega (arith, le, is)) ∙ so_far.later k d (omega (arith, le));
      put = put_more plan c.args.survey.now.stripes.now i rooms before mid new so_far.large one.changes (λ d. so_far.later i d (omega arith)) so_far.put
          (λ other. subst (PutsStripe plan (number_at c.args.survey.now.stripes.now i) i mid new) (c.index-rooms-k.is ∙ get_or_default rooms i own other within) one.put);
    }

pub returns-clause-put : goal.returns-clause-put
returns-clause-put c = λ k other below.
    c.loop-i.invariant.put k other (omega (arith, below, c.requires.number, c.count-i-end.ensures, c.loop-i-test.false))
