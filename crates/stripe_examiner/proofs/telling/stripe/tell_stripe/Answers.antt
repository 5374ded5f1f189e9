use Rattle.std.proofs.Common.{sym, subst}
use Rattle.snap_report.proofs.ToldLemmas.{told_then}
use Rattle.stripe_examiner.specs.Counts.{AreCounts}
use Rattle.repair_scope.specs.Plan.{seen}
use Rattle.stripe_examiner.proofs.ShownEvents.{events_told}
use Rattle.stripe_examiner.proofs.TellingLemmas.{told_as}
use Rattle.stripe_examiner.proofs.telling.stripe.tell_stripe.Goals as goal

pub returns-clause-told : goal.returns-clause-told
returns-clause-told g c facts i window shown is =
    told_as _ _ _ _ _ _ _ _ _ _
    (events_told (seen c.args.plan.now) facts i window c.args.own.now shown c.args.stripe is _ _ c.deref.ensures.value c.deref-2.ensures.value)
    (told_then _ _ _ _ _ _ _ _ _ _ _ _ c.tell_unsynced-unsynced.ensures.told
    (told_then _ _ _ _ _ _ _ _ _ _ _ _ c.tell_noted-noted.ensures.told
    (told_then _ _ _ _ _ _ _ _ _ _ _ _ c.tell_levels-levels.ensures.told c.tell_lost-lost.ensures.told)))

pub returns-clause-counts : goal.returns-clause-counts
returns-clause-counts g c facts i window shown is =
    subst (λ events. AreCounts events c.and-3.result)
    (sym (events_told (seen c.args.plan.now) facts i window c.args.own.now shown c.args.stripe is _ _ c.deref.ensures.value c.deref-2.ensures.value))
    (c.and-3.ensures _ _ c.tell_unsynced-unsynced.ensures.counts
    (c.and-2.ensures _ _ c.tell_noted-noted.ensures.counts
    (c.and.ensures _ _ c.tell_levels-levels.ensures.counts c.tell_lost-lost.ensures.counts)))
