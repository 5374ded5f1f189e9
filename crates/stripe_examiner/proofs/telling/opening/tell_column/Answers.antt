use Rattle.std.proofs.Common.{refl, arith}
use Rattle.stripe_examiner.specs.Findings.{record_events}
use Rattle.repair_scope.specs.Plan.{seen}
use Rattle.stripe_examiner.proofs.TellingLemmas.{tells_nothing, tells_more, told_to, counts_to}
use Rattle.stripe_examiner.proofs.telling.opening.tell_column.Goals as goal

pub loop-i-init : goal.loop-i-init
loop-i-init g c = tells_nothing _ _ _ _ _ _ _ (record { found = refl; left = refl })

pub loop-i-preserved : goal.loop-i-preserved
loop-i-preserved g c =
    tells_more _ _ _ _ (record_events (seen c.args.plan.now) c.args.d) c.loop-i.i _ _ _ _ _ _ _ _ _ _ (refl) c.and-counts.ensures c.loop-i.invariant
    c.tell_record.ensures.told c.tell_record.ensures.counts

pub returns-clause-told : goal.returns-clause-told
returns-clause-told g c = told_to _ _ _ _ (record_events (seen c.args.plan.now) c.args.d) _ _ _ _ _ _ _ (omega (arith, c.records-i-end.ensures)) c.loop-i.invariant

pub returns-clause-counts : goal.returns-clause-counts
returns-clause-counts g c = counts_to _ _ _ _ (record_events (seen c.args.plan.now) c.args.d) _ _ _ _ _ _ _ (omega (arith, c.records-i-end.ensures)) c.loop-i.invariant
