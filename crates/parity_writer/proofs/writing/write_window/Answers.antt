use Rattle.std.proofs.Common.{◌<◌, length, arith, ◌∙◌}
use Rattle.disk_model.specs.Vault.{state_of}
use Rattle.disk_model.proofs.RanLemmas.{ran_exit}
use Rattle.parity_writer.specs.Chosen.{Choice, window_calls}
use Rattle.parity_writer.proofs.ChosenWrites.{failed_at, kept_more, wrote_none, wrote_one}
use Rattle.parity_writer.proofs.writing.write_window.Goals as goal

pub loop-i-preserved-then-not-chosen-i : goal.loop-i-preserved-then-not-chosen-i
loop-i-preserved-then-not-chosen-i g c =
    let choice : Choice = record { stripes = c.args.stripes.now; chosen = c.args.chosen.now } in
    record {
      so_far = wrote_none c.args.window.now choice c.loop-i.i _ _ c.loop-i.invariant.so_far c.if-not-chosen-i.true;
      end = c.loop-i.invariant.end;
      long = c.loop-i.invariant.long;
    }

pub loop-i-preserved : goal.loop-i-preserved
loop-i-preserved g c =
    let choice : Choice = record { stripes = c.args.stripes.now; chosen = c.args.chosen.now } in
    let within : c.loop-i.i < length c.args.stripes.now = omega (arith, c.loop-i-test.true, c.loop-i.invariant.end, c.requires.stripes) in
    record {
      so_far = wrote_one c.args.window.now choice c.loop-i.i _ _ c.loop-i.invariant.so_far within c.if-not-chosen-i.false _
          (record { calls = c.write_row.ensures.calls; changes = c.write_row.ensures.changes; drafts = c.write_row.ensures.drafts })
          c.in_ok-write_row.ensures.ran c.in_ok-write_row.ensures.written;
      end = c.loop-i.invariant.end;
      long = c.write_row.auto.sums ∙ c.loop-i.invariant.long;
    }

pub returns-in_err-write_row-clause-calls : goal.returns-in_err-write_row-clause-calls
returns-in_err-write_row-clause-calls g c =
    let choice : Choice = record { stripes = c.args.stripes.now; chosen = c.args.chosen.now } in
    let within : c.loop-i.i < length c.args.stripes.now = omega (arith, c.loop-i-test.true, c.loop-i.invariant.end, c.requires.stripes) in
    (kept_more c.args.window.now choice c.loop-i.i _ _ c.loop-i.invariant.so_far within c.if-not-chosen-i.false _
    (record { calls = c.write_row.ensures.calls; changes = c.write_row.ensures.changes; drafts = c.write_row.ensures.drafts })).calls

pub returns-in_err-write_row-clause-changes : goal.returns-in_err-write_row-clause-changes
returns-in_err-write_row-clause-changes g c =
    let choice : Choice = record { stripes = c.args.stripes.now; chosen = c.args.chosen.now } in
    let within : c.loop-i.i < length c.args.stripes.now = omega (arith, c.loop-i-test.true, c.loop-i.invariant.end, c.requires.stripes) in
    (kept_more c.args.window.now choice c.loop-i.i _ _ c.loop-i.invariant.so_far within c.if-not-chosen-i.false _
    (record { calls = c.write_row.ensures.calls; changes = c.write_row.ensures.changes; drafts = c.write_row.ensures.drafts })).changes

pub returns-in_err-write_row-clause-drafts : goal.returns-in_err-write_row-clause-drafts
returns-in_err-write_row-clause-drafts g c =
    let choice : Choice = record { stripes = c.args.stripes.now; chosen = c.args.chosen.now } in
    let within : c.loop-i.i < length c.args.stripes.now = omega (arith, c.loop-i-test.true, c.loop-i.invariant.end, c.requires.stripes) in
    (kept_more c.args.window.now choice c.loop-i.i _ _ c.loop-i.invariant.so_far within c.if-not-chosen-i.false _
    (record { calls = c.write_row.ensures.calls; changes = c.write_row.ensures.changes; drafts = c.write_row.ensures.drafts })).drafts

pub returns-in_err-write_row-clause-ran : goal.returns-in_err-write_row-clause-ran
returns-in_err-write_row-clause-ran g c =
    let window = c.args.window.now in
    let choice : Choice = record { stripes = c.args.stripes.now; chosen = c.args.chosen.now } in
    let old = g.V.Vault.view c.args.vault.now in
    let new = g.V.Vault.view c.write_row.new.vault in
    let below : c.loop-i.i < window.count = omega (arith, c.loop-i-test.true, c.loop-i.invariant.end) in
    let within : c.loop-i.i < length c.args.stripes.now = omega (arith, below, c.requires.stripes) in
    ran_exit _ (window_calls old.levels window choice window.count) c.from_residual.result (state_of old) (state_of new) c.from_residual.ensures.1
    (failed_at window choice c.loop-i.i old _ c.loop-i.invariant.so_far within c.if-not-chosen-i.false new below c.in_err-write_row.ensures.ran)
