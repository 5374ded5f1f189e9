use Rattle.std.proofs.Common.{rules, ◌≡◌, length, ap, ◌∙◌, arith}
use Rattle.std.proofs.lemmas.List.{length-append}
use Rattle.snap_report.proofs.ToldLemmas.{told_nothing}
use Rattle.stripe_findings.specs.Findings.{events_at}
use Rattle.stripe_findings.specs.Reading.{reading_at}
use Rattle.stripe_findings.proofs.FindingLemmas.{events_to, events_to-more}
use Rattle.stripe_findings.proofs.TellingLemmas.{told_as}
use Rattle.snap_sync.proofs.TellingLemmas.{told_cell_more}
use Rattle.snap_sync.proofs.judging.telling.tell_stripe.Goals as goal

pub loop-d-init : goal.loop-d-init
loop-d-init g c = record { told = told_nothing _ _ _ _ _ _; count = search rules; few = search rules }

pub loop-d-preserved : goal.loop-d-preserved
loop-d-preserved g c =
    let table = c.args.table.now in
    let reading = reading_at c.args.stripes.now c.args.window.now c.args.i in
    let d = c.loop-d.d in
    let more = ap length (events_to-more table reading d) ∙ length-append (events_to table reading d) (events_at table reading d) in
    record {
      told = told_cell_more _ _ _ table reading d _ _ _ _ _ _ c.loop-d.invariant.told c.tell_cell.ensures.told;
      count = omega (arith, more, c.loop-d.invariant.count, c.count_of-count.ensures.value ∙ ap length c.tell_cell.ensures.value);
      few = omega (arith, c.loop-d.invariant.few, c.count_of-count.ensures.most);
    }

pub returns-clause-told : goal.returns-clause-told
returns-clause-told g c =
    let table = c.args.table.now in
    let all : length table.columns ≡ c.loop-d.d = omega (arith, c.disks-d-end.ensures.count) in
    told_as _ _ _ _ _ _ _ _ _ _ (ap (events_to table (reading_at c.args.stripes.now c.args.window.now c.args.i)) all) c.loop-d.invariant.told
