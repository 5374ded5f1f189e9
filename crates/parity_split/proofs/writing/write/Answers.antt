use Rattle.std.proofs.Common.{◌≡◌, ◌+◌, ◌*◌, ◌<◌, length, get_or, refl, ap, subst, arith}
use Rattle.disk_model.specs.Bytes.{Torn, put}
use Rattle.disk_model.specs.Files.{Stays, parity_of, TearsParity}
use Rattle.disk_model.specs.Vault.{Reads, ChangesBy}
use Rattle.disk_model.proofs.VaultLemmas.{on_ok}
use Rattle.parity_split.specs.Joined.{joined}
use Rattle.parity_split.specs.Parts.{InStep}
use Rattle.parity_split.specs.Works.{IsFound, parts_in}
use Rattle.parity_split.proofs.LengthLemmas.{near_found, ready_alone, found_has}
use Rattle.parity_split.proofs.PieceLemmas.{torn_then, same_torn}
use Rattle.parity_split.proofs.ValueLemmas.{put_below_start}
use Rattle.parity_split.proofs.WorksLemmas.{level_works_then, works_level, still_within, still_holds, write_works, rose_after, reads_still}
use Rattle.parity_split.proofs.WriteLemmas.{end_works, end_keeps, end_written, level_put, level_put_after}
use Rattle.parity_split.proofs.writing.write.Goals as goal

pub returns-then-parts-eq1-clause-works : goal.returns-then-parts-eq1-clause-works
returns-then-parts-eq1-clause-works g c =
    let p = c.args.parts in
    let at = c.args.at in
    let n = length c.args.bytes.now in
    let old = g.V.Base.view c.args.base.now in
    let new = g.V.Base.view c.part_write.new.self in
    let one : p.count ≡ 1 = c.if-parts-eq1.true in
    let low : 0 < p.count = c.requires.parts.some in
    let e : p.first ≡ p.first + 0 = omega arith in
    let ready = ready_alone p (at + n) old (g.V.Base.well_formed _) c.requires.parts one c.requires.in_step in
    let works = write_works p 0 at n _ _ old new low c.part_write.ensures.call (subst (λ l. ChangesBy (TearsParity l at n) old new) e c.part_write.ensures.changes) c.part_write.ensures.drafts in
    end_works p 0 at n (at + n) at n old new (g.V.Base.well_formed _) c.requires.parts low refl (λ more. absurd (omega arith)) (omega arith) (omega arith) ready works

pub returns-then-parts-eq1-clause-cause : goal.returns-then-parts-eq1-clause-cause
returns-then-parts-eq1-clause-cause g c = c.part_write.ensures.call.cause

pub returns-then-parts-eq1-clause-kept : goal.returns-then-parts-eq1-clause-kept
returns-then-parts-eq1-clause-kept g c =
    let p = c.args.parts in
    let at = c.args.at in
    let n = length c.args.bytes.now in
    let old = g.V.Base.view c.args.base.now in
    let new = g.V.Base.view c.part_write.new.self in
    let one : p.count ≡ 1 = c.if-parts-eq1.true in
    let low : 0 < p.count = c.requires.parts.some in
    let e : p.first ≡ p.first + 0 = omega arith in
    let ready = ready_alone p (at + n) old (g.V.Base.well_formed _) c.requires.parts one c.requires.in_step in
    let works = write_works p 0 at n _ _ old new low c.part_write.ensures.call (subst (λ l. ChangesBy (TearsParity l at n) old new) e c.part_write.ensures.changes) c.part_write.ensures.drafts in
    end_keeps p 0 at n (at + n) old new (g.V.Base.well_formed _) c.requires.parts low refl ready works

pub returns-then-parts-eq1-clause-written : goal.returns-then-parts-eq1-clause-written
returns-then-parts-eq1-clause-written g c =
    let p = c.args.parts in
    let at = c.args.at in
    let bytes = c.args.bytes.now in
    let n = length bytes in
    let old = g.V.Base.view c.args.base.now in
    let new = g.V.Base.view c.part_write.new.self in
    let one : p.count ≡ 1 = c.if-parts-eq1.true in
    let low : 0 < p.count = c.requires.parts.some in
    let e : p.first ≡ p.first + 0 = omega arith in
    let none : 0 * p.capacity ≡ 0 = omega arith in
    let ready = ready_alone p (at + n) old (g.V.Base.well_formed _) c.requires.parts one c.requires.in_step in
    let works = write_works p 0 at n _ _ old new low c.part_write.ensures.call (subst (λ l. ChangesBy (TearsParity l at n) old new) e c.part_write.ensures.changes) c.part_write.ensures.drafts in
    on_ok c.part_write.result
    (λ written. level_put p at bytes old new (omega (arith, c.requires.room))
    (end_written p 0 at n (at + n) at bytes bytes (joined p.capacity (parts_in p old.files)) old new (g.V.Base.well_formed _) c.requires.parts low refl (λ more. absurd (omega arith)) (omega arith) (omega arith)
    (λ k within. ap (λ i. get_or bytes i 0) (omega arith)) ready works
    (subst (λ l. Reads (λ files. parity_of files l ≡ put (parity_of old.files l) at bytes) new) e written)
    (λ t. put_below_start (0 * p.capacity) at bytes (joined p.capacity (parts_in p old.files)) none)))
    c.part_write.ensures.written

pub returns-in_err-end-clause-works : goal.returns-in_err-end-clause-works
returns-in_err-end-clause-works g c =
    let n = length c.args.bytes.now in
    works_level c.args.parts (Torn c.args.at n) (g.V.Base.view c.args.base.now) (g.V.Base.view c.find_to_write.new.base) (λ x. same_torn c.args.at n x x refl) c.find_to_write.ensures.works

pub returns-in_err-end-clause-kept : goal.returns-in_err-end-clause-kept
returns-in_err-end-clause-kept g c = still_holds c.args.parts (InStep c.args.parts.capacity) (g.V.Base.view c.args.base.now) (g.V.Base.view c.find_to_write.new.base) (g.V.Base.well_formed _) c.find_to_write.ensures.works c.requires.in_step

pub returns-then-at-bytes-clause-works : goal.returns-then-at-bytes-clause-works
returns-then-at-bytes-clause-works g c =
    let n = length c.args.bytes.now in
    let old = g.V.Base.view c.args.base.now in
    let mid = g.V.Base.view c.find_to_write.new.base in
    level_works_then c.args.parts (Torn c.args.at n) old mid (g.V.Base.view c.write_past.new.base) (torn_then c.args.at n)
    (works_level c.args.parts (Torn c.args.at n) old mid (λ x. same_torn c.args.at n x x refl) c.find_to_write.ensures.works) c.write_past.ensures.works

pub returns-then-at-bytes-clause-cause : goal.returns-then-at-bytes-clause-cause
returns-then-at-bytes-clause-cause g c = rose_after c.write_past.result Stays (g.V.Base.view c.args.base.now) (g.V.Base.view c.find_to_write.new.base) (g.V.Base.view c.write_past.new.base) c.find_to_write.ensures.works c.write_past.ensures.cause

pub returns-then-at-bytes-clause-written : goal.returns-then-at-bytes-clause-written
returns-then-at-bytes-clause-written g c =
    let p = c.args.parts in
    let old = g.V.Base.view c.args.base.now in
    let mid = g.V.Base.view c.find_to_write.new.base in
    let new = g.V.Base.view c.write_past.new.base in
    on_ok c.write_past.result (λ is. level_put_after p c.args.at c.args.bytes.now old mid new (omega (arith, c.requires.room)) c.find_to_write.ensures.works c.write_past.ensures.works.calls.goes_on.tells is) c.write_past.ensures.written

pub returns-clause-works : goal.returns-clause-works
returns-clause-works g c =
    let n = length c.args.bytes.now in
    let old = g.V.Base.view c.args.base.now in
    let mid = g.V.Base.view c.find_to_write.new.base in
    level_works_then c.args.parts (Torn c.args.at n) old mid (g.V.Base.view c.write_within.new.base) (torn_then c.args.at n)
    (works_level c.args.parts (Torn c.args.at n) old mid (λ x. same_torn c.args.at n x x refl) c.find_to_write.ensures.works) c.write_within.ensures.works

pub returns-clause-cause : goal.returns-clause-cause
returns-clause-cause g c = rose_after c.write_within.result Stays (g.V.Base.view c.args.base.now) (g.V.Base.view c.find_to_write.new.base) (g.V.Base.view c.write_within.new.base) c.find_to_write.ensures.works c.write_within.ensures.cause

pub returns-clause-written : goal.returns-clause-written
returns-clause-written g c =
    let p = c.args.parts in
    let old = g.V.Base.view c.args.base.now in
    let mid = g.V.Base.view c.find_to_write.new.base in
    let new = g.V.Base.view c.write_within.new.base in
    on_ok c.write_within.result (λ is. level_put_after p c.args.at c.args.bytes.now old mid new (omega (arith, c.requires.room)) c.find_to_write.ensures.works c.write_within.ensures.works.calls.goes_on.tells is) c.write_within.ensures.written

pub write_past-requires-clause-end : goal.write_past-requires-clause-end
write_past-requires-clause-end g c =
    let p = c.args.parts in
    let old = g.V.Base.view c.args.base.now in
    let mid = g.V.Base.view c.find_to_write.new.base in
    let within = still_within p Stays old mid c.find_to_write.ensures.works c.requires.parts in
    let found : Reads (IsFound p c.in_ok-end.end) mid = reads_still (IsFound p c.in_ok-end.end) old mid c.find_to_write.ensures.works c.in_ok-end.ensures.found in
    let near = near_found p c.in_ok-end.end mid (g.V.Base.well_formed _) within found (still_holds p (InStep p.capacity) old mid (g.V.Base.well_formed _) c.find_to_write.ensures.works c.requires.in_step) in
    record { parts = within; within = c.in_ok-end.ensures.within; near = near; held = found_has p c.in_ok-end.end mid found }

pub write_within-requires-clause-at : goal.write_within-requires-clause-at
write_within-requires-clause-at g c =
    let p = c.args.parts in
    let old = g.V.Base.view c.args.base.now in
    let mid = g.V.Base.view c.find_to_write.new.base in
    let within = still_within p Stays old mid c.find_to_write.ensures.works c.requires.parts in
    let found : Reads (IsFound p c.in_ok-end.end) mid = reads_still (IsFound p c.in_ok-end.end) old mid c.find_to_write.ensures.works c.in_ok-end.ensures.found in
    let near = near_found p c.in_ok-end.end mid (g.V.Base.well_formed _) within found (still_holds p (InStep p.capacity) old mid (g.V.Base.well_formed _) c.find_to_write.ensures.works c.requires.in_step) in
    record { parts = within; within = c.in_ok-end.ensures.within; near = near; found = found }
