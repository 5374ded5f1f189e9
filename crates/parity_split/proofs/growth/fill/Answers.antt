use Rattle.std.proofs.Common.{◌+◌, ◌*◌, ◌<◌, refl, ◌∙◌, arith}
use Rattle.disk_model.specs.Bytes.{Torn}
use Rattle.parity_split.specs.Works.{Same, LevelBy}
use Rattle.parity_split.proofs.PieceLemmas.{torn_then, same_torn}
use Rattle.parity_split.proofs.WorksLemmas.{works_start, level_stays, level_works_then, works_loose, still_within, set_len_works, rose_at}
use Rattle.parity_split.proofs.GrowthLemmas.{filled_works, filled_keeps, filled_near, filled_same, ready_lower, same_values_then, same_values_by}
use Rattle.parity_split.proofs.growth.fill.Goals as goal
use Rattle.parity_split.proofs.growth.fill.Goals.{then-now-parts-via-then-now-parts, then-now-parts-via-else-now-parts+then-rest-parts}

pub loop-base-init : goal.loop-base-init
loop-base-init g c =
    let N = c.args.end.part * c.args.parts.capacity + c.args.rest in
    record {
      works = works_start (LevelBy c.args.parts (Torn N 0)) _ (λ files. level_stays c.args.parts (Torn N 0) (λ x. same_torn N 0 x x refl) files files refl);
      within = c.requires.parts;
      low = c.requires.within;
      near = c.requires.near;
      held = c.requires.held;
      sum = refl;
      same = λ t i. refl;
    }

pub returns-in_err-make_ready-clause-works : goal.returns-in_err-make_ready-clause-works
returns-in_err-make_ready-clause-works g c =
    let N = c.args.end.part * c.args.parts.capacity + c.args.rest in
    let mid = g.V.Base.view c.loop-base.base in
    let new = g.V.Base.view c.make_ready.new.base in
    level_works_then c.args.parts (Torn N 0) (g.V.Base.view c.args.base.now) mid new (torn_then N 0) c.loop-base.invariant.works (works_loose c.args.parts Same (Torn N 0) mid new (same_torn N 0) c.make_ready.ensures.works)

pub returns-in_err-make_ready-clause-cause : goal.returns-in_err-make_ready-clause-cause
returns-in_err-make_ready-clause-cause g c =
    let N = c.args.end.part * c.args.parts.capacity + c.args.rest in
    rose_at c.from_residual.result (LevelBy c.args.parts (Torn N 0)) (g.V.Base.view c.args.base.now) (g.V.Base.view c.loop-base.base) (g.V.Base.view c.make_ready.new.base) c.loop-base.invariant.works c.in_err-make_ready.ensures.cause

pub returns-then-now-parts-clause-works : goal.returns-then-now-parts-clause-works
returns-then-now-parts-clause-works g c =
    let N = c.args.end.part * c.args.parts.capacity + c.args.rest in
    let mid = g.V.Base.view c.loop-base.base in
    let new = g.V.Base.view c.make_ready.new.base in
    level_works_then c.args.parts (Torn N 0) (g.V.Base.view c.args.base.now) mid new (torn_then N 0) c.loop-base.invariant.works (works_loose c.args.parts Same (Torn N 0) mid new (same_torn N 0) c.make_ready.ensures.works)

pub returns-then-now-parts-clause-last : goal.returns-then-now-parts-clause-last
returns-then-now-parts-clause-last g c = record {
  within = c.loop-base.invariant.low;
  is = c.loop-base.invariant.sum;
  room = λ more. elim c.then-now-parts.branch [ then-now-parts-via-then-now-parts w ↦ absurd (omega (arith, w.if-now-parts.true)) | then-now-parts-via-else-now-parts+then-rest-parts w ↦ w.if-rest-parts.true ];
}

pub returns-then-now-parts-clause-same : goal.returns-then-now-parts-clause-same
returns-then-now-parts-clause-same g c =
    let old = g.V.Base.view c.args.base.now in
    let mid = g.V.Base.view c.loop-base.base in
    let new = g.V.Base.view c.make_ready.new.base in
    same_values_then c.args.parts old mid new c.loop-base.invariant.works.calls.goes_on.tells c.make_ready.ensures.works.calls.goes_on.tells c.loop-base.invariant.same (same_values_by c.args.parts mid new c.make_ready.ensures.works)

pub returns-in_err-part_set_len-clause-works : goal.returns-in_err-part_set_len-clause-works
returns-in_err-part_set_len-clause-works g c =
    let p = c.args.parts in
    let N = c.args.end.part * c.args.parts.capacity + c.args.rest in
    let part = c.loop-base.now.part in
    let old = g.V.Base.view c.args.base.now in
    let mid = g.V.Base.view c.loop-base.base in
    let ready = g.V.Base.view c.make_ready.new.base in
    let new = g.V.Base.view c.part_set_len.new.self in
    let low : part < p.count = c.loop-base.invariant.low in
    let more : part + 1 < p.count = omega (arith, c.if-now-parts.false) in
    level_works_then p (Torn N 0) old ready new (torn_then N 0)
    (level_works_then p (Torn N 0) old mid ready (torn_then N 0) c.loop-base.invariant.works (works_loose p Same (Torn N 0) mid ready (same_torn N 0) c.make_ready.ensures.works))
    (filled_works p part N ready new (g.V.Base.well_formed _) (still_within p (LevelBy p Same) mid ready c.make_ready.ensures.works c.loop-base.invariant.within) more (omega (arith, c.loop-base.invariant.sum, c.if-rest-parts.false))
    (ready_lower p part c.loop-base.rest p.capacity ready (g.V.Base.well_formed _) (omega (arith, c.if-rest-parts.false)) c.in_ok-make_ready.ensures.ready)
    (set_len_works p part p.capacity _ _ ready new low c.part_set_len.ensures.call c.part_set_len.ensures.changes c.part_set_len.ensures.drafts))

pub returns-in_err-part_set_len-clause-cause : goal.returns-in_err-part_set_len-clause-cause
returns-in_err-part_set_len-clause-cause g c =
    let p = c.args.parts in
    let N = c.args.end.part * c.args.parts.capacity + c.args.rest in
    let old = g.V.Base.view c.args.base.now in
    let mid = g.V.Base.view c.loop-base.base in
    let ready = g.V.Base.view c.make_ready.new.base in
    rose_at c.from_residual-in_err-part_set_len.result (LevelBy p (Torn N 0)) old ready (g.V.Base.view c.part_set_len.new.self)
    (level_works_then p (Torn N 0) old mid ready (torn_then N 0) c.loop-base.invariant.works (works_loose p Same (Torn N 0) mid ready (same_torn N 0) c.make_ready.ensures.works))
    c.in_err-part_set_len.ensures.call.cause

pub returns-in_err-part_set_len-clause-kept : goal.returns-in_err-part_set_len-clause-kept
returns-in_err-part_set_len-clause-kept g c =
    let p = c.args.parts in
    let part = c.loop-base.now.part in
    let mid = g.V.Base.view c.loop-base.base in
    let ready = g.V.Base.view c.make_ready.new.base in
    let new = g.V.Base.view c.part_set_len.new.self in
    let low : part < p.count = c.loop-base.invariant.low in
    filled_keeps p part ready new (g.V.Base.well_formed _) (still_within p (LevelBy p Same) mid ready c.make_ready.ensures.works c.loop-base.invariant.within) low
    (ready_lower p part c.loop-base.rest p.capacity ready (g.V.Base.well_formed _) (omega (arith, c.if-rest-parts.false)) c.in_ok-make_ready.ensures.ready)
    (set_len_works p part p.capacity _ _ ready new low c.part_set_len.ensures.call c.part_set_len.ensures.changes c.part_set_len.ensures.drafts)

pub loop-base-preserved : goal.loop-base-preserved
loop-base-preserved g c =
    let p = c.args.parts in
    let N = c.args.end.part * c.args.parts.capacity + c.args.rest in
    let part = c.loop-base.now.part in
    let old = g.V.Base.view c.args.base.now in
    let mid = g.V.Base.view c.loop-base.base in
    let ready = g.V.Base.view c.make_ready.new.base in
    let new = g.V.Base.view c.part_set_len.new.self in
    let low : part < p.count = c.loop-base.invariant.low in
    let more : part + 1 < p.count = omega (arith, c.if-now-parts.false) in
    let long : p.capacity < c.loop-base.rest = c.if-rest-parts.false in
    let within = still_within p (LevelBy p Same) mid ready c.make_ready.ensures.works c.loop-base.invariant.within in
    let holds = ready_lower p part c.loop-base.rest p.capacity ready (g.V.Base.well_formed _) (omega arith) c.in_ok-make_ready.ensures.ready in
    let set = set_len_works p part p.capacity _ _ ready new low c.part_set_len.ensures.call c.part_set_len.ensures.changes c.part_set_len.ensures.drafts in
    let works = level_works_then p (Torn N 0) old ready new (torn_then N 0)
    (level_works_then p (Torn N 0) old mid ready (torn_then N 0) c.loop-base.invariant.works (works_loose p Same (Torn N 0) mid ready (same_torn N 0) c.make_ready.ensures.works))
    (filled_works p part N ready new (g.V.Base.well_formed _) within more (omega (arith, c.loop-base.invariant.sum)) holds set) in
    let tells = c.make_ready.ensures.works.calls.goes_on.tells in
    record {
      works = works;
      within = still_within p (LevelBy p (Torn N 0)) old new works c.requires.parts;
      low = more;
      near = filled_near p part _ ready new (g.V.Base.well_formed _) within more holds set c.in_ok-part_set_len.ensures.written;
      held = λ t some. absurd (omega arith);
      sum = omega (arith, c.loop-base.invariant.sum);
      same = same_values_then p old ready new (tells ∙ c.loop-base.invariant.works.calls.goes_on.tells) c.part_set_len.ensures.call.goes_on.tells
          (same_values_then p old mid ready c.loop-base.invariant.works.calls.goes_on.tells tells c.loop-base.invariant.same (same_values_by p mid ready c.make_ready.ensures.works))
          (filled_same p part ready new (g.V.Base.well_formed _) within more holds set c.in_ok-part_set_len.ensures.written);
    }

pub make_ready-requires : goal.make_ready-requires
make_ready-requires g c = record { parts = c.loop-base.invariant.within; within = c.loop-base.invariant.low; near = c.loop-base.invariant.near; held = c.loop-base.invariant.held }
