use Rattle.std.proofs.Common.{rules, ◌≡◌, length, sym, ap, arith}
use Rattle.std.specs.List.{range_with_len, flat_map}
use Rattle.snap_report.proofs.ToldLemmas.{told_nothing}
use Rattle.stripe_findings.specs.Findings.{events_at}
use Rattle.stripe_findings.specs.Reading.{reading_at}
use Rattle.snap_scrub.proofs.FoundLemmas.{found_as}
use Rattle.stripe_findings.proofs.TellingLemmas.{told_as}
use Rattle.snap_scrub.proofs.TellingLemmas.{events_more, told_more}
use Rattle.snap_scrub.proofs.cells.tell_cells.Goals as goal

pub loop-d-init : goal.loop-d-init
loop-d-init g c = record { told = told_nothing _ _ _ _ _ _; found = c.nothing-found.ensures; few = search rules }

pub loop-d-preserved : goal.loop-d-preserved
loop-d-preserved g c =
    let table = c.args.table.now in
    let at = events_at table (reading_at c.args.stripes.now c.args.window.now c.args.i) in
    let d = c.loop-d.d in
    record {
      told = told_more _ _ _ _ at d _ _ _ _ _ _ c.loop-d.invariant.told c.tell_cell-here.ensures.told;
      found = found_as _ _ _ (events_more at d) (c.both-found.ensures.found _ _ c.loop-d.invariant.found (found_as _ _ _ (sym c.tell_cell-here.ensures.value) c.found_of.ensures.found));
      few = omega (arith, c.loop-d.invariant.few, c.found_of.ensures.few, c.both-found.ensures.count);
    }

pub returns-clause-told : goal.returns-clause-told
returns-clause-told g c =
    let table = c.args.table.now in
    let all : length table.columns ≡ c.loop-d.d = omega (arith, c.disks-d-end.ensures.count) in
    told_as _ _ _ _ _ _ _ _ _ _ (ap (λ n. flat_map (events_at table (reading_at c.args.stripes.now c.args.window.now c.args.i)) (range_with_len 0 n)) all) c.loop-d.invariant.told

pub returns-clause-found : goal.returns-clause-found
returns-clause-found g c =
    let table = c.args.table.now in
    let all : length table.columns ≡ c.loop-d.d = omega (arith, c.disks-d-end.ensures.count) in
    found_as _ _ _ (ap (λ n. flat_map (events_at table (reading_at c.args.stripes.now c.args.window.now c.args.i)) (range_with_len 0 n)) all) c.loop-d.invariant.found
