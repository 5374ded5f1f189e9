use Rattle.std.proofs.Common.{◌≡◌, ◌+◌, ◌-◌, ◌*◌, length, refl, ◌∙◌, subst, arith}
use Rattle.disk_model.specs.Bytes.{Torn}
use Rattle.disk_model.proofs.VaultLemmas.{on_ok}
use Rattle.parity_split.specs.Joined.{joined}
use Rattle.parity_split.specs.Works.{Works, LevelBy, IsPlaceOf, parts_in}
use Rattle.parity_split.proofs.GrowthLemmas.{near_keeps}
use Rattle.parity_split.proofs.PieceLemmas.{torn_then, torn_wider}
use Rattle.parity_split.proofs.WorksLemmas.{level_works_then, works_loose, still_within, rose_after}
use Rattle.parity_split.proofs.WriteLemmas.{near_of_ready_for, grown_put}
use Rattle.parity_split.proofs.writing.write_past.Goals as goal

pub returns-in_err-last-clause-works : goal.returns-in_err-last-clause-works
returns-in_err-last-clause-works g c =
    let p = c.args.parts in
    let n = length c.args.bytes.now in
    let to = c.args.at + n in
    let old = g.V.Base.view c.args.base.now in
    let mid = g.V.Base.view c.fill.new.base in
    let e : c.args.end.part * p.capacity + (to - c.start.result) ≡ to = omega (arith, c.start.ensures, c.requires.past, c.requires.room) in
    works_loose p (Torn to 0) (Torn c.args.at n) old mid (λ x y torn. torn_wider c.args.at n to 0 x y (omega arith) (omega arith) torn) (subst (λ m. Works (LevelBy p (Torn m 0)) old mid) e c.fill.ensures.works)

pub returns-in_err-write_all_before-clause-works : goal.returns-in_err-write_all_before-clause-works
returns-in_err-write_all_before-clause-works g c =
    let p = c.args.parts in
    let n = length c.args.bytes.now in
    let to = c.args.at + n in
    let old = g.V.Base.view c.args.base.now in
    let mid = g.V.Base.view c.fill.new.base in
    let e : c.args.end.part * p.capacity + (to - c.start.result) ≡ to = omega (arith, c.start.ensures, c.requires.past, c.requires.room) in
    level_works_then p (Torn c.args.at n) old mid (g.V.Base.view c.write_all_before.new.base) (torn_then c.args.at n)
    (works_loose p (Torn to 0) (Torn c.args.at n) old mid (λ x y torn. torn_wider c.args.at n to 0 x y (omega arith) (omega arith) torn) (subst (λ m. Works (LevelBy p (Torn m 0)) old mid) e c.fill.ensures.works))
    c.write_all_before.ensures.works

pub returns-in_err-write_all_before-clause-kept : goal.returns-in_err-write_all_before-clause-kept
returns-in_err-write_all_before-clause-kept g c =
    let p = c.args.parts in
    let mid = g.V.Base.view c.fill.new.base in
    let new = g.V.Base.view c.write_all_before.new.base in
    let within = still_within p _ mid new c.write_all_before.ensures.works (still_within p _ (g.V.Base.view c.args.base.now) mid c.fill.ensures.works c.requires.end.parts) in
    near_keeps p c.in_ok-last.last.part new (g.V.Base.well_formed _) within c.write_all_before.ensures.near

pub returns-clause-works : goal.returns-clause-works
returns-clause-works g c =
    let p = c.args.parts in
    let n = length c.args.bytes.now in
    let to = c.args.at + n in
    let old = g.V.Base.view c.args.base.now in
    let mid = g.V.Base.view c.fill.new.base in
    let last = g.V.Base.view c.write_all_before.new.base in
    let e : c.args.end.part * p.capacity + (to - c.start.result) ≡ to = omega (arith, c.start.ensures, c.requires.past, c.requires.room) in
    level_works_then p (Torn c.args.at n) old mid (g.V.Base.view c.write_end.new.base) (torn_then c.args.at n)
    (works_loose p (Torn to 0) (Torn c.args.at n) old mid (λ x y torn. torn_wider c.args.at n to 0 x y (omega arith) (omega arith) torn) (subst (λ m. Works (LevelBy p (Torn m 0)) old mid) e c.fill.ensures.works))
    (level_works_then p (Torn c.args.at n) mid last (g.V.Base.view c.write_end.new.base) (torn_then c.args.at n) c.write_all_before.ensures.works c.write_end.ensures.works)

pub returns-clause-cause : goal.returns-clause-cause
returns-clause-cause g c =
    let old = g.V.Base.view c.args.base.now in
    let mid = g.V.Base.view c.fill.new.base in
    let last = g.V.Base.view c.write_all_before.new.base in
    rose_after c.write_end.result _ old mid (g.V.Base.view c.write_end.new.base) c.fill.ensures.works
    (rose_after c.write_end.result _ mid last (g.V.Base.view c.write_end.new.base) c.write_all_before.ensures.works c.write_end.ensures.cause)

pub returns-clause-written : goal.returns-clause-written
returns-clause-written g c =
    let p = c.args.parts in
    let to = c.args.at + length c.args.bytes.now in
    let old = g.V.Base.view c.args.base.now in
    let mid = g.V.Base.view c.fill.new.base in
    let new = g.V.Base.view c.write_end.new.base in
    let e : c.args.end.part * p.capacity + (to - c.start.result) ≡ to = omega (arith, c.start.ensures, c.requires.past, c.requires.room) in
    let tells = c.write_end.ensures.works.calls.goes_on.tells ∙ c.write_all_before.ensures.works.calls.goes_on.tells in
    on_ok c.write_end.result
    (λ written. grown_put p c.args.at to c.args.bytes.now old mid new refl tells (subst (λ m. Works (LevelBy p (Torn m 0)) old mid) e c.fill.ensures.works) c.in_ok-last.ensures.same
    (written (joined p.capacity (parts_in p mid.files)) c.in_ok-write_all_before.ensures.written))
    c.write_end.ensures.written

pub write_all_before-requires-clause-end : goal.write_all_before-requires-clause-end
write_all_before-requires-clause-end g c =
    let p = c.args.parts in
    let mid = g.V.Base.view c.fill.new.base in
    let within = still_within p _ (g.V.Base.view c.args.base.now) mid c.fill.ensures.works c.requires.end.parts in
    record { parts = within; within = c.in_ok-last.ensures.last.within; near = near_of_ready_for p c.in_ok-last.last.part c.in_ok-last.last.len mid (g.V.Base.well_formed _) within c.in_ok-last.ensures.ready }

pub write_end-requires-clause-at : goal.write_end-requires-clause-at
write_end-requires-clause-at g c =
    let p = c.args.parts in
    let to = c.args.at + length c.args.bytes.now in
    let mid = g.V.Base.view c.fill.new.base in
    let e : c.args.end.part * p.capacity + (to - c.start.result) ≡ to = omega (arith, c.start.ensures, c.requires.past, c.requires.room) in
    record {
      parts = still_within p _ mid (g.V.Base.view c.write_all_before.new.base) c.write_all_before.ensures.works (still_within p _ (g.V.Base.view c.args.base.now) mid c.fill.ensures.works c.requires.end.parts);
      place = subst (λ m. IsPlaceOf p c.in_ok-last.last m) e c.in_ok-last.ensures.last;
      ready = c.write_all_before.ensures.ready c.in_ok-last.last.len c.in_ok-last.ensures.ready;
    }
