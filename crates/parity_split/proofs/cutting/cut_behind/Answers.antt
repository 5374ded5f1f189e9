use Rattle.std.proofs.Common.{◌≡◌, ◌+◌, ◌-◌, ◌*◌, ◌^◌, ◌<◌, refl, arith}
use Rattle.disk_model.specs.Bytes.{Stretched}
use Rattle.parity_split.specs.Works.{LevelBy}
use Rattle.parity_split.proofs.PieceLemmas.{stretched_then, same_stretched}
use Rattle.parity_split.proofs.WorksLemmas.{works_start, level_stays, level_works_then, still_within, rose_at}
use Rattle.parity_split.proofs.GrowthLemmas.{near_keeps}
use Rattle.parity_split.proofs.CutLemmas.{same_below_then, some_part, place_below, holds_full, near_at_step, full_at_step}
use Rattle.parity_split.proofs.cutting.cut_behind.Goals as goal

pub loop-parts-init : goal.loop-parts-init
loop-parts-init g c = record {
  works = works_start (LevelBy c.args.parts (Stretched c.args.len)) _ (λ files. level_stays c.args.parts (Stretched c.args.len) (λ x. same_stretched c.args.len x x refl) files files refl);
  within = c.requires.from.parts;
  near = c.requires.from.near;
  held = c.requires.from.held;
  cut = c.requires.from.cut;
  same = λ t i below. refl;
}

pub returns-in_err-step_down-clause-works : goal.returns-in_err-step_down-clause-works
returns-in_err-step_down-clause-works g c =
    let p = c.args.parts in
    level_works_then p (Stretched c.args.len) (g.V.Base.view c.args.base.now) (g.V.Base.view c.loop-parts.base) (g.V.Base.view c.step_down.new.base) (stretched_then c.args.len) c.loop-parts.invariant.works
    (c.step_down.ensures.works c.args.len (omega (arith, c.start.ensures, c.loop-parts-test.true)))

pub returns-in_err-step_down-clause-cause : goal.returns-in_err-step_down-clause-cause
returns-in_err-step_down-clause-cause g c = rose_at c.from_residual.result (LevelBy c.args.parts (Stretched c.args.len)) (g.V.Base.view c.args.base.now) (g.V.Base.view c.loop-parts.base) (g.V.Base.view c.step_down.new.base) c.loop-parts.invariant.works c.in_err-step_down.ensures.cause

pub overflow_sub-now : goal.overflow_sub-now
overflow_sub-now g c = some_part c.args.parts c.args.len c.loop-parts.now.part (2 ^ 64 - 1) (omega (arith, c.start.ensures, c.loop-parts-test.true))

pub loop-parts-preserved : goal.loop-parts-preserved
loop-parts-preserved g c =
    let p = c.args.parts in
    let part = c.loop-parts.now.part in
    let old = g.V.Base.view c.args.base.now in
    let mid = g.V.Base.view c.loop-parts.base in
    let new = g.V.Base.view c.step_down.new.base in
    let some : 0 < part = some_part p c.args.len part (2 ^ 64 - 1) (omega (arith, c.start.ensures, c.loop-parts-test.true)) in
    let below : c.args.len < part * p.capacity = omega (arith, c.start.ensures, c.loop-parts-test.true) in
    let e : part - 1 + 1 ≡ part = omega arith in
    let works = level_works_then p (Stretched c.args.len) old mid new (stretched_then c.args.len) c.loop-parts.invariant.works (c.step_down.ensures.works c.args.len (omega arith)) in
    record {
      works = works;
      within = still_within p (LevelBy p (Stretched c.args.len)) old new works c.requires.from.parts;
      near = near_at_step p part (part - 1) new e c.in_ok-step_down.ensures.near;
      held = holds_full p (part - 1) new c.requires.from.parts.capacity (full_at_step p part (part - 1) new e c.in_ok-step_down.ensures.full);
      cut = place_below p c.loop-parts.now c.args.len (part - 1) e below c.loop-parts.invariant.cut.within;
      same = same_below_then p c.args.len (part * p.capacity) old.files mid new (omega arith) (c.step_down.ensures.works 0 (omega arith)).calls.goes_on.tells c.loop-parts.invariant.same c.in_ok-step_down.ensures.same;
    }

pub returns-clause-works : goal.returns-clause-works
returns-clause-works g c = c.loop-parts.invariant.works

pub returns-clause-kept : goal.returns-clause-kept
returns-clause-kept g c = near_keeps c.args.parts c.loop-parts.now.part (g.V.Base.view c.loop-parts.base) (g.V.Base.well_formed _) c.loop-parts.invariant.within c.loop-parts.invariant.near

pub returns-clause-last : goal.returns-clause-last
returns-clause-last g c = record {
  cut = c.loop-parts.invariant.cut;
  from = omega (arith, c.start.ensures, c.loop-parts-test.false, c.requires.limit);
  near = c.loop-parts.invariant.near;
  held = c.loop-parts.invariant.held;
}

pub returns-clause-same : goal.returns-clause-same
returns-clause-same g c = c.loop-parts.invariant.same

pub step_down-requires : goal.step_down-requires
step_down-requires g c = record { parts = c.loop-parts.invariant.within; within = c.loop-parts.invariant.cut.within; near = c.loop-parts.invariant.near; held = c.loop-parts.invariant.held }
