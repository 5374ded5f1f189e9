use Rattle.std.proofs.Common.{◌*◌, refl, arith}
use Rattle.disk_model.specs.Bytes.{Stretched}
use Rattle.disk_model.specs.Files.{Stays}
use Rattle.disk_model.proofs.VaultLemmas.{on_ok}
use Rattle.parity_split.specs.Parts.{InStep, IsNear}
use Rattle.parity_split.specs.Works.{Works, LevelBy}
use Rattle.parity_split.proofs.PieceLemmas.{stretched_then, same_stretched}
use Rattle.parity_split.proofs.WorksLemmas.{level_works_then, works_level, call_works, still_holds, still_within, holds_synced, rose_after}
use Rattle.parity_split.proofs.CutLemmas.{near_before_empty, none_still, same_below_still}
use Rattle.parity_split.proofs.cutting.step_down.Goals as goal

pub returns-clause-works : goal.returns-clause-works
returns-clause-works g c = λ len low.
    let p = c.args.parts in
    let old = g.V.Base.view c.args.base.now in
    let mid = g.V.Base.view c.empty_end.new.base in
    let new = g.V.Base.view c.part_sync.new.self in
    level_works_then p (Stretched len) old mid new (stretched_then len) (c.empty_end.ensures.works len low)
    (works_level p (Stretched len) mid new (λ x. same_stretched len x x refl) (call_works Stays _ _ _ _ c.part_sync.ensures.call c.part_sync.ensures.changes c.part_sync.ensures.drafts))

pub returns-clause-cause : goal.returns-clause-cause
returns-clause-cause g c = rose_after c.part_sync.result (LevelBy c.args.parts (Stretched 0)) (g.V.Base.view c.args.base.now) (g.V.Base.view c.empty_end.new.base) (g.V.Base.view c.part_sync.new.self) (c.empty_end.ensures.works 0 (omega arith)) c.part_sync.ensures.call.cause

pub returns-clause-kept : goal.returns-clause-kept
returns-clause-kept g c = still_holds c.args.parts (InStep c.args.parts.capacity) (g.V.Base.view c.empty_end.new.base) (g.V.Base.view c.part_sync.new.self) (g.V.Base.well_formed _)
    (call_works Stays _ _ _ _ c.part_sync.ensures.call c.part_sync.ensures.changes c.part_sync.ensures.drafts) c.empty_end.ensures.kept

pub returns-clause-near : goal.returns-clause-near
returns-clause-near g c =
    let p = c.args.parts in
    let part = c.args.end.part in
    let old = g.V.Base.view c.args.base.now in
    let mid = g.V.Base.view c.empty_end.new.base in
    let new = g.V.Base.view c.part_sync.new.self in
    let works : Works Stays mid new = call_works Stays _ _ _ _ c.part_sync.ensures.call c.part_sync.ensures.changes c.part_sync.ensures.drafts in
    let within = still_within p Stays mid new works (still_within p (LevelBy p (Stretched 0)) old mid (c.empty_end.ensures.works 0 (omega arith)) c.requires.parts) in
    on_ok c.part_sync.result
    (λ synced. near_before_empty p part new (g.V.Base.well_formed _) within
    (none_still p part mid new works c.in_ok-empty_end.ensures.empty)
    (holds_synced p part (IsNear p.capacity part) mid new c.requires.within (g.V.Base.well_formed _) works c.in_ok-empty_end.ensures.near synced))
    c.part_sync.ensures.synced

pub returns-clause-full : goal.returns-clause-full
returns-clause-full g c =
    let p = c.args.parts in
    let part = c.args.end.part in
    let mid = g.V.Base.view c.empty_end.new.base in
    let new = g.V.Base.view c.part_sync.new.self in
    let works : Works Stays mid new = call_works Stays _ _ _ _ c.part_sync.ensures.call c.part_sync.ensures.changes c.part_sync.ensures.drafts in
    on_ok c.part_sync.result
    (λ synced t i e. ((still_holds p (IsNear p.capacity part) mid new (g.V.Base.well_formed _) works c.in_ok-empty_end.ensures.near).reads t).read i (omega arith))
    c.part_sync.ensures.synced

pub returns-clause-same : goal.returns-clause-same
returns-clause-same g c =
    let p = c.args.parts in
    let old = g.V.Base.view c.args.base.now in
    let mid = g.V.Base.view c.empty_end.new.base in
    let new = g.V.Base.view c.part_sync.new.self in
    let works : Works Stays mid new = call_works Stays _ _ _ _ c.part_sync.ensures.call c.part_sync.ensures.changes c.part_sync.ensures.drafts in
    on_ok c.part_sync.result (λ synced. same_below_still p (c.args.end.part * p.capacity) old.files mid new works c.in_ok-empty_end.ensures.same) c.part_sync.ensures.synced
