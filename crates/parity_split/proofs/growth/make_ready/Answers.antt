use Rattle.std.proofs.Common.{refl, arith, rules}
use Rattle.disk_model.specs.Files.{Stays}
use Rattle.disk_model.proofs.VaultLemmas.{on_ok, on_any}
use Rattle.parity_split.specs.Parts.{IsNear}
use Rattle.parity_split.specs.Works.{Same, LevelBy}
use Rattle.parity_split.proofs.WorksLemmas.{level_works_then, works_level, still_within, still_holds, rose_after}
use Rattle.parity_split.proofs.GrowthLemmas.{same_then, ready_small, ready_cleared, near_keeps, ready_keeps}
use Rattle.parity_split.proofs.growth.make_ready.Goals as goal
use Rattle.parity_split.proofs.growth.make_ready.Goals.{then-end-parts-via-then-end-parts, then-end-parts-via-else-end-parts+then-rest-parts}

pub returns-in_err-settle_before-clause-works : goal.returns-in_err-settle_before-clause-works
returns-in_err-settle_before-clause-works g c = works_level c.args.parts Same _ _ (λ x. refl) c.settle_before.ensures.works

pub returns-in_err-settle_before-clause-kept : goal.returns-in_err-settle_before-clause-kept
returns-in_err-settle_before-clause-kept g c =
    let p = c.args.parts in
    let old = g.V.Base.view c.args.base.now in
    let new = g.V.Base.view c.settle_before.new.base in
    near_keeps p c.args.end.part new (g.V.Base.well_formed _) (still_within p Stays old new c.settle_before.ensures.works c.requires.parts) (still_holds p (IsNear p.capacity c.args.end.part) old new (g.V.Base.well_formed _) c.settle_before.ensures.works c.requires.near)

pub returns-clause-works : goal.returns-clause-works
returns-clause-works g c =
    let old = g.V.Base.view c.args.base.now in
    let mid = g.V.Base.view c.settle_before.new.base in
    let new = g.V.Base.view c.clear.new.base in
    level_works_then c.args.parts Same old mid new same_then (works_level c.args.parts Same old mid (λ x. refl) c.settle_before.ensures.works) c.clear.ensures.works

pub returns-clause-cause : goal.returns-clause-cause
returns-clause-cause g c = rose_after c.clear.result Stays (g.V.Base.view c.args.base.now) (g.V.Base.view c.settle_before.new.base) (g.V.Base.view c.clear.new.base) c.settle_before.ensures.works c.clear.ensures.cause

pub returns-clause-kept : goal.returns-clause-kept
returns-clause-kept g c =
    let p = c.args.parts in
    let old = g.V.Base.view c.args.base.now in
    let mid = g.V.Base.view c.settle_before.new.base in
    let new = g.V.Base.view c.clear.new.base in
    ready_keeps p c.args.end.part 0 new (g.V.Base.well_formed _) (still_within p (LevelBy p Same) mid new c.clear.ensures.works (still_within p Stays old mid c.settle_before.ensures.works c.requires.parts)) c.clear.ensures.ready

pub returns-clause-ready : goal.returns-clause-ready
returns-clause-ready g c =
    let p = c.args.parts in
    let old = g.V.Base.view c.args.base.now in
    let mid = g.V.Base.view c.settle_before.new.base in
    let new = g.V.Base.view c.clear.new.base in
    on_ok c.clear.result (λ cleared. ready_cleared p c.args.end.part c.args.rest new (g.V.Base.well_formed _) (still_within p (LevelBy p Same) mid new c.clear.ensures.works (still_within p Stays old mid c.settle_before.ensures.works c.requires.parts)) cleared c.clear.ensures.ready) c.clear.ensures.cleared

pub returns-in_err-settle_before-clause-cause : goal.returns-in_err-settle_before-clause-cause
returns-in_err-settle_before-clause-cause g c = on_any c.from_residual.result c.in_err-settle_before.ensures.cause

pub returns-in_err-settle_before-clause-ready : goal.returns-in_err-settle_before-clause-ready
returns-in_err-settle_before-clause-ready g c = search rules

pub overflow_add-end : goal.overflow_add-end
overflow_add-end g c = omega (arith, c.requires.parts.within, c.requires.parts.fit, c.requires.within)

pub returns-then-end-parts-clause-works : goal.returns-then-end-parts-clause-works
returns-then-end-parts-clause-works g c = works_level c.args.parts Same _ _ (λ x. refl) c.settle_before.ensures.works

pub returns-then-end-parts-clause-kept : goal.returns-then-end-parts-clause-kept
returns-then-end-parts-clause-kept g c =
    let p = c.args.parts in
    let old = g.V.Base.view c.args.base.now in
    let new = g.V.Base.view c.settle_before.new.base in
    near_keeps p c.args.end.part new (g.V.Base.well_formed _) (still_within p Stays old new c.settle_before.ensures.works c.requires.parts) (still_holds p (IsNear p.capacity c.args.end.part) old new (g.V.Base.well_formed _) c.settle_before.ensures.works c.requires.near)

pub returns-then-end-parts-clause-ready : goal.returns-then-end-parts-clause-ready
returns-then-end-parts-clause-ready g c =
    let p = c.args.parts in
    let old = g.V.Base.view c.args.base.now in
    let new = g.V.Base.view c.settle_before.new.base in
    ready_small p c.args.end.part c.args.rest new (g.V.Base.well_formed _) (still_within p Stays old new c.settle_before.ensures.works c.requires.parts) (λ more. elim c.then-end-parts.branch [ then-end-parts-via-then-end-parts w ↦ absurd (omega (arith, w.if-end-parts.true)) | then-end-parts-via-else-end-parts+then-rest-parts w ↦ w.if-rest-parts.true ]) c.in_ok-settle_before.ensures.ready
