use Rattle.std.proofs.Common.{◌++◌, ◌∙◌, List, ap₂, subst, sym}
use Rattle.snap_report.specs.declared.events.Event.{Event}
use Rattle.snap_report.proofs.ToldLemmas.{told_then}
use Rattle.stripe_examiner.specs.Counts.{AreCounts}
use Rattle.snap_fix.proofs.EndingTellLemmas.{news_parts}
use Rattle.stripe_examiner.proofs.TellingLemmas.{told_as}
use Rattle.snap_fix.proofs.ending.tell_finish.Goals as goal

pub returns-clause-told : goal.returns-clause-told
returns-clause-told g c =
    told_as _ _ _ _ _ _ _ _ _ _
    (news_parts c.args.d c.args.i c.args.finish ∙ ap₂ (λ (front back : List Event). front ++ back) (sym c.done_event.ensures) (sym c.unstamped_event.ensures))
    (told_then _ _ _ _ _ _ _ _ _ _ _ _ c.tell_found-first.ensures.told c.tell_found-second.ensures.told)

pub returns-clause-counts : goal.returns-clause-counts
returns-clause-counts g c =
    subst (λ (events : List Event). AreCounts events c.and.result)
    (sym (news_parts c.args.d c.args.i c.args.finish ∙ ap₂ (λ (front back : List Event). front ++ back) (sym c.done_event.ensures) (sym c.unstamped_event.ensures)))
    (c.and.ensures _ _ c.tell_found-first.ensures.counts c.tell_found-second.ensures.counts)
