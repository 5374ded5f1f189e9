use Rattle.std.proofs.Common.{◌<◌, length, refl, sym, ap, subst, arith}
use Rattle.std.proofs.lemmas.List.{take_all}
use Rattle.stripe_examiner.specs.Findings.{events_of}
use Rattle.stripe_examiner.specs.Looking.{facts_at}
use Rattle.repair_scope.specs.Plan.{seen}
use Rattle.stripe_examiner.specs.Shown.{ShowsStripe}
use Rattle.stripe_examiner.proofs.TellingLemmas.{tells_as, tells_nothing, tells_then}
use Rattle.snap_fix.proofs.CheckLemmas.{as_many_shown, events_more, number_shown}
use Rattle.snap_fix.proofs.checking.tell_window.Goals as goal

pub loop-k-init : goal.loop-k-init
loop-k-init g c = λ all window shown. tells_nothing _ _ _ _ _ _ _ (record { found = refl; left = refl })

pub loop-k-preserved : goal.loop-k-preserved
loop-k-preserved g c = λ all window shown.
    let plan = seen c.args.plan.now in
    let k = c.loop-k.k in
    let many = as_many_shown plan all c.args.stripes.now window c.args.rooms.now shown in
    let below : k < length all = omega (arith, many, c.loop-k-test.true) in
    let facts = facts_at all k in
    let one : ShowsStripe plan facts k window c.index-rooms-k.result =
    subst (ShowsStripe plan facts k window) (sym c.index-rooms-k.is) (shown.each k c.index-rooms-k.result below) in
    let is = number_shown plan all c.args.stripes.now window c.args.rooms.now shown k below in
    tells_as _ _ _ _ _ _ _ _ _ _ _ (events_more plan all k below)
    (tells_then _ _ _ _ _ _ _ _ _ _ _ _ _ _ _ c.and-counts.ensures (c.loop-k.invariant all window shown)
    (record { told = c.tell_stripe-more.ensures.told facts k window one is; counts_are = c.tell_stripe-more.ensures.counts facts k window one is }))

pub returns-clause-told : goal.returns-clause-told
returns-clause-told g c = λ all window shown.
    let plan = seen c.args.plan.now in
    let many = as_many_shown plan all c.args.stripes.now window c.args.rooms.now shown in
    (tells_as _ _ _ _ _ _ _ _ _ _ _ (ap (events_of plan) (sym (take_all c.loop-k.k all (omega (arith, many, c.loop-k-test.false))))) (c.loop-k.invariant all window shown)).told

pub returns-clause-counts : goal.returns-clause-counts
returns-clause-counts g c = λ all window shown.
    let plan = seen c.args.plan.now in
    let many = as_many_shown plan all c.args.stripes.now window c.args.rooms.now shown in
    (tells_as _ _ _ _ _ _ _ _ _ _ _ (ap (events_of plan) (sym (take_all c.loop-k.k all (omega (arith, many, c.loop-k-test.false))))) (c.loop-k.invariant all window shown)).counts_are
