use Rattle.std.proofs.Common.{◌≡◌, ◌+◌, ◌-◌, ◌*◌, ◌∙◌, subst, arith}
use Rattle.disk_model.specs.Bytes.{Torn, Stretched}
use Rattle.disk_model.proofs.VaultLemmas.{on_ok}
use Rattle.parity_split.specs.Works.{Works, LevelBy}
use Rattle.parity_split.proofs.PieceLemmas.{stretched_then, stretched_by_growth}
use Rattle.parity_split.proofs.WorksLemmas.{level_works_then, works_loose, still_within, set_len_works, rose_after}
use Rattle.parity_split.proofs.CutLemmas.{stretched_keeps, resized_level}
use Rattle.parity_split.proofs.LengthLemmas.{stretch_works, resized_after, found_has}
use Rattle.parity_split.proofs.lengths.grow.Goals as goal

pub returns-in_err-last-clause-works : goal.returns-in_err-last-clause-works
returns-in_err-last-clause-works g c =
    let p = c.args.parts in
    let old = g.V.Base.view c.args.base.now in
    let mid = g.V.Base.view c.fill.new.base in
    let s = c.start.ensures in
    let l = c.requires.longer in
    let fits = c.ranges.len.fits in
    let e : c.args.end.part * p.capacity + (c.args.len - c.start.result) ≡ c.args.len = omega arith in
    let one = works_loose p (Torn c.args.len 0) (Stretched c.args.len) old mid (stretched_by_growth c.args.len) (subst (λ n. Works (LevelBy p (Torn n 0)) old mid) e c.fill.ensures.works) in
    one

pub returns-clause-works : goal.returns-clause-works
returns-clause-works g c =
    let p = c.args.parts in
    let old = g.V.Base.view c.args.base.now in
    let mid = g.V.Base.view c.fill.new.base in
    let s = c.start.ensures in
    let l = c.requires.longer in
    let fits = c.ranges.len.fits in
    let e : c.args.end.part * p.capacity + (c.args.len - c.start.result) ≡ c.args.len = omega arith in
    let one = works_loose p (Torn c.args.len 0) (Stretched c.args.len) old mid (stretched_by_growth c.args.len) (subst (λ n. Works (LevelBy p (Torn n 0)) old mid) e c.fill.ensures.works) in
    let q = c.in_ok-last.last.part in
    let m = c.in_ok-last.last.len in
    let new = g.V.Base.view c.part_set_len.new.self in
    let place = c.in_ok-last.ensures.last in
    let is : q * p.capacity + m ≡ c.args.len = place.is ∙ e in
    let within = still_within p (LevelBy p (Stretched c.args.len)) old mid one c.requires.at.parts in
    let works = set_len_works p q m _ _ mid new place.within c.part_set_len.ensures.call c.part_set_len.ensures.changes c.part_set_len.ensures.drafts in
    level_works_then p (Stretched c.args.len) old mid new (stretched_then c.args.len) one
    (stretch_works p q m c.args.len mid new (g.V.Base.well_formed _) within place.within place.room is c.in_ok-last.ensures.ready works)

pub returns-clause-cause : goal.returns-clause-cause
returns-clause-cause g c = rose_after c.part_set_len.result _ (g.V.Base.view c.args.base.now) (g.V.Base.view c.fill.new.base) (g.V.Base.view c.part_set_len.new.self) c.fill.ensures.works c.part_set_len.ensures.call.cause

pub returns-clause-kept : goal.returns-clause-kept
returns-clause-kept g c =
    let p = c.args.parts in
    let old = g.V.Base.view c.args.base.now in
    let mid = g.V.Base.view c.fill.new.base in
    let s = c.start.ensures in
    let l = c.requires.longer in
    let fits = c.ranges.len.fits in
    let e : c.args.end.part * p.capacity + (c.args.len - c.start.result) ≡ c.args.len = omega arith in
    let one = works_loose p (Torn c.args.len 0) (Stretched c.args.len) old mid (stretched_by_growth c.args.len) (subst (λ n. Works (LevelBy p (Torn n 0)) old mid) e c.fill.ensures.works) in
    let q = c.in_ok-last.last.part in
    let m = c.in_ok-last.last.len in
    let new = g.V.Base.view c.part_set_len.new.self in
    let place = c.in_ok-last.ensures.last in
    let is : q * p.capacity + m ≡ c.args.len = place.is ∙ e in
    let within = still_within p (LevelBy p (Stretched c.args.len)) old mid one c.requires.at.parts in
    let works = set_len_works p q m _ _ mid new place.within c.part_set_len.ensures.call c.part_set_len.ensures.changes c.part_set_len.ensures.drafts in
    stretched_keeps p q m mid new (g.V.Base.well_formed _) within place.within c.in_ok-last.ensures.ready works

pub returns-clause-written : goal.returns-clause-written
returns-clause-written g c =
    let p = c.args.parts in
    let old = g.V.Base.view c.args.base.now in
    let mid = g.V.Base.view c.fill.new.base in
    let s = c.start.ensures in
    let l = c.requires.longer in
    let fits = c.ranges.len.fits in
    let e : c.args.end.part * p.capacity + (c.args.len - c.start.result) ≡ c.args.len = omega arith in
    let one = works_loose p (Torn c.args.len 0) (Stretched c.args.len) old mid (stretched_by_growth c.args.len) (subst (λ n. Works (LevelBy p (Torn n 0)) old mid) e c.fill.ensures.works) in
    let q = c.in_ok-last.last.part in
    let m = c.in_ok-last.last.len in
    let new = g.V.Base.view c.part_set_len.new.self in
    let place = c.in_ok-last.ensures.last in
    let is : q * p.capacity + m ≡ c.args.len = place.is ∙ e in
    let within = still_within p (LevelBy p (Stretched c.args.len)) old mid one c.requires.at.parts in
    let works = set_len_works p q m _ _ mid new place.within c.part_set_len.ensures.call c.part_set_len.ensures.changes c.part_set_len.ensures.drafts in
    on_ok c.part_set_len.result
    (λ written. resized_after p c.args.len (q * p.capacity + m) old mid new is c.part_set_len.ensures.call.goes_on.tells (λ t i below. c.in_ok-last.ensures.same t i)
    (resized_level p q m mid new (g.V.Base.well_formed _) within place.within place.room c.in_ok-last.ensures.ready works written))
    c.part_set_len.ensures.written

pub fill-requires : goal.fill-requires
fill-requires g c = record {
  parts = c.requires.at.parts;
  within = c.requires.at.within;
  near = c.requires.at.near;
  held = found_has c.args.parts c.args.end (g.V.Base.view c.args.base.now) c.requires.at.found;
}
