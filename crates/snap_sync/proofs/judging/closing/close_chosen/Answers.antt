use Rattle.std.proofs.Common.{◌<◌, false, length, sym, ap, ◌∙◌, arith}
use Rattle.std.proofs.lemmas.List.{length-map}
use Rattle.std.proofs.lemmas.List.FromFn.{length-map-range_with_len}
use Rattle.stripe_findings.specs.Reading.{is_verified, reading_at, readings_in}
use Rattle.snap_sync.proofs.CloseLemmas.{in_hand, digests_in_hand, chosen_at, closed-chosen, closed-passed}
use Rattle.snap_sync.proofs.StaysLemmas.{cells-differ, fits-differs}
use Rattle.snap_sync.proofs.judging.closing.close_chosen.Goals as goal
use Rattle.snap_sync.proofs.judging.closing.close_chosen.Goals.{then-chosen-i, else-chosen-i}

pub bounds-chosen-i : goal.bounds-chosen-i
bounds-chosen-i c =
    let stripes = c.args.stripes.now in
    let window = c.args.window.now in
    let as_many =
    ap length c.requires.chosen ∙ length-map (readings_in stripes window) (is_verified c.args.table.now)
    ∙ length-map-range_with_len (reading_at stripes window) 0 (length stripes) in
    omega (arith, as_many, c.requires.holds.count, c.count-i-end.ensures)

pub close_stripe-requires-clause-holds : goal.close_stripe-requires-clause-holds
close_stripe-requires-clause-holds c =
    let window = c.args.window.now in
    let holds = c.requires.holds in
    let differs = in_hand c.args.table.now c.args.now c.args.stripes.now window c.loop-i.i c.loop-i.table c.loop-i.invariant in
    record {
      fits = fits-differs c.args.table.now c.loop-i.table window differs holds.fits;
      count = holds.count;
      cells = cells-differ c.args.table.now c.loop-i.table c.args.stripes.now window differs holds.cells;
      within = λ k d within. omega (arith, differs.stripes, holds.within k d within);
    }

pub close_stripe-requires-clause-digests : goal.close_stripe-requires-clause-digests
close_stripe-requires-clause-digests c =
    let table = c.args.table.now in
    let stripes = c.args.stripes.now in
    let window = c.args.window.now in
    let within : c.loop-i.i < length stripes = omega (arith, c.requires.holds.count, c.count-i-end.ensures) in
    let verified = sym (chosen_at table stripes window c.args.chosen.now c.loop-i.i false within c.requires.chosen) ∙ c.if-chosen-i.true in
    digests_in_hand table c.args.now stripes window c.loop-i.i c.loop-i.table verified c.loop-i.invariant

pub loop-i-preserved : goal.loop-i-preserved
loop-i-preserved c =
    let table = c.args.table.now in
    let stripes = c.args.stripes.now in
    let window = c.args.window.now in
    let i = c.loop-i.i in
    let within : i < length stripes = omega (arith, c.requires.holds.count, c.count-i-end.ensures) in
    let at = sym (chosen_at table stripes window c.args.chosen.now i false within c.requires.chosen) in
    elim c.if-chosen-i.branch [
      | then-chosen-i w ↦
          closed-chosen table c.args.now stripes window i c.loop-i.table c.if-chosen-i.table (at ∙ w.if-chosen-i.true) c.loop-i.invariant (w.table-is ∙ w.close_stripe.ensures)
      | else-chosen-i w ↦ w.table-is ∙ closed-passed table c.args.now stripes window i c.loop-i.table (at ∙ w.if-chosen-i.false) c.loop-i.invariant
    ]
