use Rattle.std.proofs.Common.{◌<◌, refl, arith}
use Rattle.disk_model.specs.Bytes.{Stretched}
use Rattle.disk_model.proofs.VaultLemmas.{on_ok}
use Rattle.parity_split.specs.Works.{LevelBy}
use Rattle.parity_split.proofs.PieceLemmas.{same_stretched}
use Rattle.parity_split.proofs.WorksLemmas.{works_start, level_stays, set_len_works}
use Rattle.parity_split.proofs.GrowthLemmas.{near_keeps}
use Rattle.parity_split.proofs.CutLemmas.{ready_to_cut, emptied_works, stretched_keeps, emptied_near, resized_level, none_left}
use Rattle.parity_split.proofs.cutting.empty_end.Goals as goal

pub returns-then-end-eq0-clause-works : goal.returns-then-end-eq0-clause-works
returns-then-end-eq0-clause-works g c = λ len low. works_start (LevelBy c.args.parts (Stretched len)) _ (λ files. level_stays c.args.parts (Stretched len) (λ x. same_stretched len x x refl) files files refl)

pub returns-then-end-eq0-clause-kept : goal.returns-then-end-eq0-clause-kept
returns-then-end-eq0-clause-kept g c = near_keeps c.args.parts c.args.end.part (g.V.Base.view c.args.base.now) (g.V.Base.well_formed _) c.requires.parts c.requires.near

pub returns-then-end-eq0-clause-empty : goal.returns-then-end-eq0-clause-empty
returns-then-end-eq0-clause-empty g c = λ t. (c.requires.held t).none c.if-end-eq0.true

pub returns-then-end-eq0-clause-same : goal.returns-then-end-eq0-clause-same
returns-then-end-eq0-clause-same g c = λ t i below. refl

pub returns-clause-works : goal.returns-clause-works
returns-clause-works g c = λ len low.
    let p = c.args.parts in
    let old = g.V.Base.view c.args.base.now in
    let new = g.V.Base.view c.part_set_len.new.self in
    let some : 0 < c.args.end.len = omega (arith, c.if-end-eq0.false) in
    emptied_works p c.args.end.part len old new (g.V.Base.well_formed _) c.requires.parts c.requires.within low
    (ready_to_cut p c.args.end 0 old (g.V.Base.well_formed _) c.requires.parts some (λ more. c.requires.parts.capacity) c.requires.held c.requires.near)
    (set_len_works p c.args.end.part 0 _ _ old new c.requires.within c.part_set_len.ensures.call c.part_set_len.ensures.changes c.part_set_len.ensures.drafts)

pub returns-clause-kept : goal.returns-clause-kept
returns-clause-kept g c =
    let p = c.args.parts in
    let old = g.V.Base.view c.args.base.now in
    let new = g.V.Base.view c.part_set_len.new.self in
    let some : 0 < c.args.end.len = omega (arith, c.if-end-eq0.false) in
    stretched_keeps p c.args.end.part 0 old new (g.V.Base.well_formed _) c.requires.parts c.requires.within
    (ready_to_cut p c.args.end 0 old (g.V.Base.well_formed _) c.requires.parts some (λ more. c.requires.parts.capacity) c.requires.held c.requires.near)
    (set_len_works p c.args.end.part 0 _ _ old new c.requires.within c.part_set_len.ensures.call c.part_set_len.ensures.changes c.part_set_len.ensures.drafts)

pub returns-clause-near : goal.returns-clause-near
returns-clause-near g c =
    let p = c.args.parts in
    let old = g.V.Base.view c.args.base.now in
    let new = g.V.Base.view c.part_set_len.new.self in
    let some : 0 < c.args.end.len = omega (arith, c.if-end-eq0.false) in
    on_ok c.part_set_len.result
    (emptied_near p c.args.end.part _ old new (g.V.Base.well_formed _) c.requires.parts c.requires.within
    (ready_to_cut p c.args.end 0 old (g.V.Base.well_formed _) c.requires.parts some (λ more. c.requires.parts.capacity) c.requires.held c.requires.near)
    (set_len_works p c.args.end.part 0 _ _ old new c.requires.within c.part_set_len.ensures.call c.part_set_len.ensures.changes c.part_set_len.ensures.drafts))
    c.part_set_len.ensures.written

pub returns-clause-empty : goal.returns-clause-empty
returns-clause-empty g c = on_ok c.part_set_len.result (none_left c.args.parts c.args.end.part _ (g.V.Base.view c.part_set_len.new.self) c.requires.within) c.part_set_len.ensures.written

pub returns-clause-same : goal.returns-clause-same
returns-clause-same g c =
    let p = c.args.parts in
    let old = g.V.Base.view c.args.base.now in
    let new = g.V.Base.view c.part_set_len.new.self in
    let some : 0 < c.args.end.len = omega (arith, c.if-end-eq0.false) in
    on_ok c.part_set_len.result
    (λ written t i below.
    (resized_level p c.args.end.part 0 old new (g.V.Base.well_formed _) c.requires.parts c.requires.within (λ more. omega arith)
    (ready_to_cut p c.args.end 0 old (g.V.Base.well_formed _) c.requires.parts some (λ more. c.requires.parts.capacity) c.requires.held c.requires.near)
    (set_len_works p c.args.end.part 0 _ _ old new c.requires.within c.part_set_len.ensures.call c.part_set_len.ensures.changes c.part_set_len.ensures.drafts) written t).same i (omega arith))
    c.part_set_len.ensures.written
