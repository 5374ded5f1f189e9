use Rattle.std.proofs.Common.{refl, sym, ◌∙◌, subst}
use Rattle.snap_report.proofs.ToldLemmas.{told_nothing, told_then}
use Rattle.stripe_examiner.specs.declared.counts.Counts.{Counts}
use Rattle.stripe_examiner.specs.Counts.{AreCounts}
use Rattle.repair_scope.specs.Plan.{seen}
use Rattle.stripe_examiner.proofs.ShownEvents.{levels_none_shown, levels_shown_read}
use Rattle.stripe_examiner.proofs.TellingLemmas.{told_as}
use Rattle.stripe_examiner.proofs.telling.stripe.tell_levels.Goals as goal

pub returns-then-not-is_searched-clause-told : goal.returns-then-not-is_searched-clause-told
returns-then-not-is_searched-clause-told g c =
    told_as _ _ _ _ _ _ _ _ _ _
    (levels_none_shown (seen c.args.plan.now) c.args.stripe c.args.own.now (sym c.is_searched.ensures ∙ c.if-not-is_searched.true))
    (told_nothing _ _ _ _ _ _)

pub returns-then-not-is_searched-clause-counts : goal.returns-then-not-is_searched-clause-counts
returns-then-not-is_searched-clause-counts g c =
    let none : Counts = record { found = 0; left = 0 } in
    subst (λ events. AreCounts events none)
    (sym (levels_none_shown (seen c.args.plan.now) c.args.stripe c.args.own.now (sym c.is_searched.ensures ∙ c.if-not-is_searched.true)))
    (record { found = refl; left = refl })

pub returns-clause-told : goal.returns-clause-told
returns-clause-told g c =
    told_as _ _ _ _ _ _ _ _ _ _
    (levels_shown_read (seen c.args.plan.now) c.args.stripe c.args.own.now (sym c.is_searched.ensures ∙ c.if-not-is_searched.false))
    (told_then _ _ _ _ _ _ _ _ _ _ _ _ c.tell_unread_levels-unread.ensures.told c.tell_wrong_levels-wrong.ensures.told)

pub returns-clause-counts : goal.returns-clause-counts
returns-clause-counts g c =
    subst (λ events. AreCounts events c.and.result)
    (sym (levels_shown_read (seen c.args.plan.now) c.args.stripe c.args.own.now (sym c.is_searched.ensures ∙ c.if-not-is_searched.false)))
    (c.and.ensures _ _ c.tell_unread_levels-unread.ensures.counts c.tell_wrong_levels-wrong.ensures.counts)
