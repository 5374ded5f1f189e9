use Rattle.snap_report.proofs.ToldLemmas.{told_then}
use Rattle.stripe_examiner.proofs.FindingLemmas.{selected_events}
use Rattle.stripe_examiner.proofs.TellingLemmas.{told_as}
use Rattle.stripe_examiner.proofs.telling.opening.tell_record.Goals as goal

pub returns-clause-told : goal.returns-clause-told
returns-clause-told g c =
    told_as _ _ _ _ _ _ _ _ _ _
    (selected_events _ _ _ _ _ _ _ _ c.entry_of-entry.ensures c.if-not-entry.false c.changed.ensures.value c.blocked.ensures.value)
    (told_then _ _ _ _ _ _ _ _ _ _ _ _ c.tell_found-first.ensures.told c.tell_found-second.ensures.told)
