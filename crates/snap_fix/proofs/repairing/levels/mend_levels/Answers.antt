use Rattle.std.proofs.Common.{◌≡◌, ◌<◌, ◌≤◌, length, true, arith, refl, sym, ap, ◌∙◌}
use Rattle.disk_model.proofs.VaultLemmas.{no_calls, calls_then}
use Rattle.parity_writer.proofs.Keeping.{drafts_start, drafts_then}
use Rattle.repair_scope.specs.Plan.{seen}
use Rattle.std.proofs.lemmas.List.{length-set}
use Rattle.snap_fix.proofs.FlagLemmas.{flags_none, flags_skip, flags_more, flags_all}
use Rattle.file_restorer.proofs.GoesOnLemmas.{handed_on}
use Rattle.snap_fix.proofs.MendedLevelLemmas.{levels_none, levels_skip, mends_more, mends_all, mends_not, wrong_shown}
use Rattle.snap_fix.proofs.repairing.levels.mend_levels.Goals as goal

pub loop-r-init : goal.loop-r-init
loop-r-init g c = record {
  block = refl;
  calls = no_calls _;
  drafts = drafts_start _;
  few = omega arith;
  long = refl;
  flags = λ facts shows. flags_none _ facts _;
  end = ap (λ shape. shape.levels) c.shape-r-end.ensures.shape;
  so_far = λ facts shows. levels_none _ _ _ _ _ _;
}

pub loop-r-preserved-then-not-one-r : goal.loop-r-preserved-then-not-one-r
loop-r-preserved-then-not-one-r g c =
    let plan = seen c.args.plan.now in
    let so_far = c.loop-r.invariant in
    let below : c.loop-r.r < c.args.one.now.own.now.levels.count = omega (arith, c.loop-r-test.true, so_far.end, c.requires.mend.count) in
    let right = sym (c.requires.wrong c.loop-r.r below) ∙ c.if-not-one-r.true in
    record {
      block = so_far.block;
      calls = so_far.calls;
      drafts = so_far.drafts;
      few = omega (arith, so_far.few);
      long = so_far.long;
      flags = λ facts shows. flags_skip plan facts c.loop-r.r _ _
          (wrong_shown plan facts c.args.one.now.stripe c.args.one.now.slot c.loop-r.r c.args.one.now.window.now c.args.one.now.own.now.levels c.args.one.now.own.now.known shows below ∙ right)
          (so_far.flags facts shows);
      end = so_far.end;
      so_far = λ facts shows. levels_skip _ _ _ plan facts c.loop-r.r c.loop-r.count _ _
          (wrong_shown plan facts c.args.one.now.stripe c.args.one.now.slot c.loop-r.r c.args.one.now.window.now c.args.one.now.own.now.levels c.args.one.now.own.now.known shows below ∙ right)
          (so_far.so_far facts shows);
    }

pub loop-r-preserved : goal.loop-r-preserved
loop-r-preserved g c =
    let plan = seen c.args.plan.now in
    let so_far = c.loop-r.invariant in
    let writes = c.in_ok-write_level.ensures.written in
    let below : c.loop-r.r < c.args.one.now.own.now.levels.count = omega (arith, c.loop-r-test.true, so_far.end, c.requires.mend.count) in
    let wrong = sym (c.requires.wrong c.loop-r.r below) ∙ c.if-not-one-r.false in
    record {
      block = c.write_level.auto.block ∙ so_far.block;
      calls = calls_then _ _ _ so_far.calls writes.calls;
      drafts = drafts_then _ _ _ so_far.calls.goes_on.tells so_far.drafts writes.drafts;
      few = omega (arith, so_far.few);
      long = length-set c.loop-r.written c.loop-r.r true ∙ so_far.long;
      flags = λ facts shows. flags_more plan facts c.loop-r.r _ _ (omega (arith, below, so_far.long, c.requires.written, c.requires.mend.count))
          (wrong_shown plan facts c.args.one.now.stripe c.args.one.now.slot c.loop-r.r c.args.one.now.window.now c.args.one.now.own.now.levels c.args.one.now.own.now.known shows below ∙ wrong)
          (so_far.flags facts shows);
      end = so_far.end;
      so_far = λ facts shows. mends_more _ _ _ plan facts c.args.one.now.stripe c.args.one.now.slot c.args.one.now.window.now c.args.one.now.own.now.levels c.args.one.now.own.now.known shows c.args.one.now.window.now.block_size c.requires.can.fits.block_size
          c.loop-r.r c.loop-r.count _ _ _ below wrong so_far.calls writes (so_far.so_far facts shows);
    }

pub returns-clause-mended : goal.returns-clause-mended
returns-clause-mended g c =
    let plan = seen c.args.plan.now in
    let so_far = c.loop-r.invariant in
    let all : c.args.one.now.own.now.levels.count ≡ c.loop-r.r = omega (arith, c.loop-r-test.false, c.loop-r.auto.r-end, so_far.end, c.requires.mend.count) in
    mends_all _ _ _ plan c.args.one.now.stripe c.args.one.now.slot c.args.one.now.window.now c.args.one.now.own.now.levels c.args.one.now.own.now.known c.loop-r.r c.loop-r.count _ _ all c.requires.mend.room so_far.calls so_far.drafts so_far.so_far

pub returns-clause-written : goal.returns-clause-written
returns-clause-written g c =
    let plan = seen c.args.plan.now in
    let so_far = c.loop-r.invariant in
    let all : length c.args.written.now ≤ c.loop-r.r = omega (arith, c.loop-r-test.false, c.loop-r.auto.r-end, so_far.end, c.requires.written) in
    λ facts shows. flags_all plan facts c.loop-r.r _ _ so_far.long all (so_far.flags facts shows)

pub returns-in_err-write_level-clause-failed : goal.returns-in_err-write_level-clause-failed
returns-in_err-write_level-clause-failed g c =
    let plan = seen c.args.plan.now in
    let so_far = c.loop-r.invariant in
    let below : c.loop-r.r < c.args.one.now.own.now.levels.count = omega (arith, c.loop-r-test.true, so_far.end, c.requires.mend.count) in
    let wrong = sym (c.requires.wrong c.loop-r.r below) ∙ c.if-not-one-r.false in
    handed_on c.from_residual.result _ c.in_err-write_level.field-0.0 c.from_residual.ensures.1
    (mends_not _ _ _ plan c.args.one.now.stripe c.args.one.now.slot c.args.one.now.window.now c.args.one.now.own.now.levels c.args.one.now.own.now.known c.args.one.now.window.now.block_size c.requires.can.fits.block_size
    c.loop-r.r c.loop-r.count _ _ _ below c.requires.mend.room wrong so_far.calls so_far.drafts c.in_err-write_level.ensures.failed so_far.so_far)
