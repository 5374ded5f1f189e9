use Rattle.std.proofs.Common.{◌≡◌, ◌+◌, ◌-◌, ◌<◌, inl, inr, subst, refl, arith}
use Rattle.disk_model.specs.Files.{Stays, parity_of}
use Rattle.disk_model.specs.Vault.{Holds}
use Rattle.disk_model.proofs.VaultLemmas.{on_ok}
use Rattle.parity_split.specs.Parts.{IsNear}
use Rattle.parity_split.specs.Works.{Works}
use Rattle.parity_split.proofs.WorksLemmas.{works_start, call_works, holds_synced, still_within}
use Rattle.parity_split.proofs.GrowthLemmas.{ready_as_is, ready_synced}
use Rattle.parity_split.proofs.growth.settle_before.Goals as goal
use Rattle.parity_split.proofs.growth.settle_before.Goals.{then-end-gt0-via-then-end-gt0, then-end-gt0-via-else-end-gt0+then-end-eq0}

pub returns-then-end-gt0-clause-works : goal.returns-then-end-gt0-clause-works
returns-then-end-gt0-clause-works g c = works_start Stays _ (λ files. refl)

pub returns-then-end-gt0-clause-ready : goal.returns-then-end-gt0-clause-ready
returns-then-end-gt0-clause-ready g c = ready_as_is c.args.parts c.args.end (g.V.Base.view c.args.base.now) (g.V.Base.well_formed _) c.requires.parts
    (elim c.then-end-gt0.branch [ then-end-gt0-via-then-end-gt0 w ↦ inl w.if-end-gt0.true | then-end-gt0-via-else-end-gt0+then-end-eq0 w ↦ inr w.if-end-eq0.true ]) c.requires.held c.requires.near

pub overflow_add-parts : goal.overflow_add-parts
overflow_add-parts g c = omega (arith, c.requires.parts.within, c.requires.parts.fit, c.requires.within)

pub overflow_sub-parts : goal.overflow_sub-parts
overflow_sub-parts g c = omega (arith, c.if-end-eq0.false)

pub part_sync-requires : goal.part_sync-requires
part_sync-requires g c = omega (arith, c.requires.parts.within, c.requires.within)

pub returns-clause-works : goal.returns-clause-works
returns-clause-works g c = call_works Stays _ _ _ _ c.part_sync.ensures.call c.part_sync.ensures.changes c.part_sync.ensures.drafts

pub returns-clause-cause : goal.returns-clause-cause
returns-clause-cause g c = c.part_sync.ensures.call.cause

pub returns-clause-ready : goal.returns-clause-ready
returns-clause-ready g c =
    let p = c.args.parts in
    let part = c.args.end.part in
    let old = g.V.Base.view c.args.base.now in
    let new = g.V.Base.view c.part_sync.new.self in
    let works : Works Stays old new = call_works Stays _ _ _ _ c.part_sync.ensures.call c.part_sync.ensures.changes c.part_sync.ensures.drafts in
    let some : 0 < part = omega (arith, c.if-end-eq0.false) in
    let e : p.first + part - 1 ≡ p.first + (part - 1) = omega arith in
    on_ok c.part_sync.result
    (λ synced. ready_synced p part (part - 1) new (g.V.Base.well_formed _) (still_within p Stays old new works c.requires.parts) (omega arith)
    (holds_synced p (part - 1) (IsNear p.capacity part) old new (omega (arith, c.requires.within)) (g.V.Base.well_formed _) works c.requires.near
    (subst (λ n. Holds (λ files. parity_of files n ≡ parity_of old.files n) new) e synced)))
    c.part_sync.ensures.synced
