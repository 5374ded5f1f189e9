use Rattle.std.proofs.Common.{refl, arith}
use Rattle.std.specs.Option.{option_to_list}
use Rattle.stripe_examiner.specs.Shown.{found_at}
use Rattle.stripe_examiner.proofs.TellingLemmas.{tells_nothing, tells_more, told_to, counts_to}
use Rattle.stripe_examiner.proofs.telling.stripe.tell_noted.Goals as goal

pub loop-d-init : goal.loop-d-init
loop-d-init g c = tells_nothing _ _ _ _ _ _ _ (record { found = refl; left = refl })

pub loop-d-preserved : goal.loop-d-preserved
loop-d-preserved g c =
    tells_more _ _ _ _ (λ d. option_to_list (found_at c.args.found.now d)) c.loop-d.d _ _ _ _ _ _ _ _ _ _ refl c.and-counts.ensures c.loop-d.invariant
    c.tell_found.ensures.told c.tell_found.ensures.counts

pub returns-clause-told : goal.returns-clause-told
returns-clause-told g c = told_to _ _ _ _ (λ d. option_to_list (found_at c.args.found.now d)) _ _ _ _ _ _ _ (omega (arith, c.disks-d-end.ensures.count)) c.loop-d.invariant

pub returns-clause-counts : goal.returns-clause-counts
returns-clause-counts g c = counts_to _ _ _ _ (λ d. option_to_list (found_at c.args.found.now d)) _ _ _ _ _ _ _ (omega (arith, c.disks-d-end.ensures.count)) c.loop-d.invariant
