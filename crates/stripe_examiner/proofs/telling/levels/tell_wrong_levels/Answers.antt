use Rattle.std.proofs.Common.{refl, arith}
use Rattle.stripe_examiner.specs.Judging.{flagged_event}
use Rattle.stripe_examiner.proofs.StripeLemmas.{levels_of_shape}
use Rattle.stripe_examiner.proofs.TellingLemmas.{tells_nothing, tells_more, told_to, counts_to}
use Rattle.stripe_examiner.proofs.telling.levels.tell_wrong_levels.Goals as goal

pub loop-r-init : goal.loop-r-init
loop-r-init g c = tells_nothing _ _ _ _ _ _ _ (record { found = refl; left = refl })

pub loop-r-preserved : goal.loop-r-preserved
loop-r-preserved g c =
    tells_more _ _ _ _ (flagged_event c.args.stripe c.args.flags.now) c.loop-r.r _ _ _ _ _ _ _ _ _ _ c.wrong-found.ensures.value
    c.and-counts.ensures c.loop-r.invariant c.tell_found.ensures.told c.tell_found.ensures.counts

pub returns-clause-told : goal.returns-clause-told
returns-clause-told g c =
    told_to _ _ _ _ (flagged_event c.args.stripe c.args.flags.now) _ _ _ _ _ _ _ (omega (arith, levels_of_shape c.shape-r-end.ensures.shape)) c.loop-r.invariant

pub returns-clause-counts : goal.returns-clause-counts
returns-clause-counts g c =
    counts_to _ _ _ _ (flagged_event c.args.stripe c.args.flags.now) _ _ _ _ _ _ _ (omega (arith, levels_of_shape c.shape-r-end.ensures.shape)) c.loop-r.invariant
