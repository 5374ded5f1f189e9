use Rattle.std.proofs.Common.{◌≡◌, ℕ, ◌<◌, eqb, length, ap, sym, ◌∙◌, arith}
use Rattle.stripe_findings.specs.Findings.{events_of}
use Rattle.snap_sync.specs.Closing.{verified_in}
use Rattle.snap_sync.specs.Work.{more_findings}
use Rattle.stripe_findings.proofs.SlotLemmas.{readings_to}
use Rattle.stripe_findings.proofs.TellingLemmas.{told_as}
use Rattle.snap_sync.proofs.TellingLemmas.{told_stripe_more}
use Rattle.snap_sync.proofs.LookingLemmas.{one_at_most, chosen_more, synced_more, findings_more}
use Rattle.snap_sync.proofs.judging.look_over.Goals as goal

pub loop-i-preserved : goal.loop-i-preserved
loop-i-preserved g c =
    let table = c.args.table.now in
    let stripes = c.args.stripes.now in
    let window = c.args.window.now in
    let i = c.loop-i.i in
    let found = c.tell_stripe-found.result in
    let within : i < length c.loop-i.chosen = omega (arith, c.requires.holds.count, c.requires.chosen, c.count-i-end.ensures, c.loop-i.auto.chosen) in
    let so_far = c.loop-i.invariant in
    let counted = c.tell_stripe-found.ensures.count in
    let counts = c.with-counts.result in
    record {
      told = told_stripe_more _ _ _ table stripes window i _ _ _ _ _ _ so_far.told c.tell_stripe-found.ensures.told;
      chosen = chosen_more table stripes window i c.loop-i.chosen found within so_far.chosen counted;
      synced = synced_more table stripes window i c.loop-i.counts.synced found counts.synced so_far.synced counted c.with-counts.ensures.synced;
      few = omega (arith, so_far.few, c.with-counts.ensures.synced, one_at_most (eqb found 0));
      findings = findings_more table stripes window i c.loop-i.counts.findings found counts.findings so_far.findings counted c.with-counts.ensures.findings;
    }

pub returns-clause-told : goal.returns-clause-told
returns-clause-told g c =
    let table = c.args.table.now in
    let stripes = c.args.stripes.now in
    let all : length stripes ≡ c.loop-i.i = omega (arith, c.requires.holds.count, c.count-i-end.ensures) in
    told_as _ _ _ _ _ _ _ _ _ _ (ap (λ (n : ℕ). events_of table (readings_to stripes c.args.window.now n)) all) c.loop-i.invariant.told

pub returns-clause-counts : goal.returns-clause-counts
returns-clause-counts g c =
    let table = c.args.table.now in
    let stripes = c.args.stripes.now in
    let window = c.args.window.now in
    let all : length stripes ≡ c.loop-i.i = omega (arith, c.requires.holds.count, c.count-i-end.ensures) in
    record {
      synced = c.loop-i.invariant.synced ∙ ap (λ (n : ℕ). verified_in table (readings_to stripes window n)) (sym all);
      findings = c.loop-i.invariant.findings ∙ ap (λ (n : ℕ). more_findings 0 (length (events_of table (readings_to stripes window n)))) (sym all);
    }
