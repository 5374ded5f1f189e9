use Rattle.std.proofs.Common.{sym, ◌∙◌}
use Rattle.snap_fix.proofs.FixedParityLemmas.{untried, tried, tried_not}
use Rattle.snap_fix.proofs.AnswerLemmas.{if_both, if_err}
use Rattle.snap_fix.proofs.fixing.mend_parity.Goals as goal

pub returns-clause-mended : goal.returns-clause-mended
returns-clause-mended g c =
    if_both c.mend_levels.result _ _ _
    (λ count mends flags facts shows. tried _ _ _ _ _ _ _ _ _ facts shows (sym c.is_searched.ensures ∙ c.if-not-is_searched.false) _ _ _ _ count mends flags)
    c.mend_levels.ensures.mended c.mend_levels.ensures.written

pub returns-clause-failed : goal.returns-clause-failed
returns-clause-failed g c =
    if_err c.mend_levels.result _ _
    (λ failed mends facts shows. tried_not _ _ _ _ _ _ _ _ _ facts shows (sym c.is_searched.ensures ∙ c.if-not-is_searched.false) _ _ mends)
    c.mend_levels.ensures.failed

-- nothing is written where no recovery is tried
pub returns-then-not-is_searched-clause-mended : goal.returns-then-not-is_searched-clause-mended
returns-then-not-is_searched-clause-mended g c =
    λ facts shows. untried _ _ _ _ _ _ _ _ _ facts shows (sym c.is_searched.ensures ∙ c.if-not-is_searched.true) _ _ _ _
