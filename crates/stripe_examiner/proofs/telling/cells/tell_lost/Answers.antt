use Rattle.std.proofs.Common.{refl, arith}
use Rattle.stripe_examiner.specs.Findings.{is_lost_by, lost_events}
use Rattle.stripe_examiner.specs.Marks.{mark_in}
use Rattle.repair_scope.specs.Plan.{seen}
use Rattle.stripe_examiner.proofs.TellingLemmas.{tells_nothing, tells_more, told_to, counts_to}
use Rattle.stripe_examiner.proofs.telling.cells.tell_lost.Goals as goal

pub loop-d-init : goal.loop-d-init
loop-d-init g c = tells_nothing _ _ _ _ _ _ _ (record { found = refl; left = refl })

pub loop-d-preserved : goal.loop-d-preserved
loop-d-preserved g c =
    tells_more _ _ _ _ (λ d. lost_events (seen c.args.plan.now) c.args.stripe (is_lost_by (seen c.args.plan.now) c.args.stripe (mark_in c.args.marks.now d) c.args.known d) d) c.loop-d.d _ _ _ _ _ _ _ _ _ _ (c.lost-found.ensures.value) c.and-counts.ensures c.loop-d.invariant
    c.tell_found.ensures.told c.tell_found.ensures.counts

pub returns-clause-told : goal.returns-clause-told
returns-clause-told g c = told_to _ _ _ _ (λ d. lost_events (seen c.args.plan.now) c.args.stripe (is_lost_by (seen c.args.plan.now) c.args.stripe (mark_in c.args.marks.now d) c.args.known d) d) _ _ _ _ _ _ _ (omega (arith, c.disks-d-end.ensures.count)) c.loop-d.invariant

pub returns-clause-counts : goal.returns-clause-counts
returns-clause-counts g c = counts_to _ _ _ _ (λ d. lost_events (seen c.args.plan.now) c.args.stripe (is_lost_by (seen c.args.plan.now) c.args.stripe (mark_in c.args.marks.now d) c.args.known d) d) _ _ _ _ _ _ _ (omega (arith, c.disks-d-end.ensures.count)) c.loop-d.invariant
