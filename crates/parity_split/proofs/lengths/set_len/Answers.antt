use Rattle.std.proofs.Common.{◌≡◌, ◌+◌, ◌*◌, ◌<◌, refl, subst, arith}
use Rattle.disk_model.specs.Bytes.{Stretched, resized}
use Rattle.disk_model.specs.Files.{Stays, parity_of, StretchesParity}
use Rattle.disk_model.specs.Vault.{Reads, ChangesBy}
use Rattle.disk_model.proofs.VaultLemmas.{on_ok}
use Rattle.parity_split.specs.Parts.{InStep}
use Rattle.parity_split.specs.Works.{IsFound, parts_in}
use Rattle.parity_split.proofs.PieceLemmas.{stretched_then, same_stretched}
use Rattle.parity_split.proofs.WorksLemmas.{level_works_then, works_level, still_within, still_holds, set_len_works, rose_after, reads_still}
use Rattle.parity_split.proofs.LengthLemmas.{near_found, ready_alone, level_as_long, level_resized, level_resized_after, stretch_works}
use Rattle.parity_split.proofs.CutLemmas.{stretched_keeps, resized_level}
use Rattle.parity_split.specs.Joined.{joined}
use Rattle.parity_split.specs.Values.{IsResized}
use Rattle.parity_split.proofs.lengths.set_len.Goals as goal

pub returns-in_err-end-clause-works : goal.returns-in_err-end-clause-works
returns-in_err-end-clause-works g c = works_level c.args.parts (Stretched c.args.len) (g.V.Base.view c.args.base.now) (g.V.Base.view c.find.new.base) (λ x. same_stretched c.args.len x x refl) c.find.ensures.works

pub returns-in_err-end-clause-kept : goal.returns-in_err-end-clause-kept
returns-in_err-end-clause-kept g c = still_holds c.args.parts (InStep c.args.parts.capacity) (g.V.Base.view c.args.base.now) (g.V.Base.view c.find.new.base) (g.V.Base.well_formed _) c.find.ensures.works c.requires.in_step

pub returns-clause-works : goal.returns-clause-works
returns-clause-works g c = works_level c.args.parts (Stretched c.args.len) (g.V.Base.view c.args.base.now) (g.V.Base.view c.find.new.base) (λ x. same_stretched c.args.len x x refl) c.find.ensures.works

pub returns-clause-kept : goal.returns-clause-kept
returns-clause-kept g c = still_holds c.args.parts (InStep c.args.parts.capacity) (g.V.Base.view c.args.base.now) (g.V.Base.view c.find.new.base) (g.V.Base.well_formed _) c.find.ensures.works c.requires.in_step

pub returns-then-parts-eq1-clause-works : goal.returns-then-parts-eq1-clause-works
returns-then-parts-eq1-clause-works g c =
    let p = c.args.parts in
    let old = g.V.Base.view c.args.base.now in
    let new = g.V.Base.view c.part_set_len.new.self in
    let one : p.count ≡ 1 = c.if-parts-eq1.true in
    let low : 0 < p.count = c.requires.parts.some in
    let e : p.first ≡ p.first + 0 = omega arith in
    let whole : 0 * p.capacity + c.args.len ≡ c.args.len = omega arith in
    let ready = ready_alone p c.args.len old (g.V.Base.well_formed _) c.requires.parts one c.requires.in_step in
    let works = set_len_works p 0 c.args.len _ _ old new low c.part_set_len.ensures.call (subst (λ l. ChangesBy (StretchesParity l c.args.len) old new) e c.part_set_len.ensures.changes) c.part_set_len.ensures.drafts in
    stretch_works p 0 c.args.len c.args.len old new (g.V.Base.well_formed _) c.requires.parts low (λ more. absurd (omega arith)) whole ready works

pub returns-then-parts-eq1-clause-kept : goal.returns-then-parts-eq1-clause-kept
returns-then-parts-eq1-clause-kept g c =
    let p = c.args.parts in
    let old = g.V.Base.view c.args.base.now in
    let new = g.V.Base.view c.part_set_len.new.self in
    let one : p.count ≡ 1 = c.if-parts-eq1.true in
    let low : 0 < p.count = c.requires.parts.some in
    let e : p.first ≡ p.first + 0 = omega arith in
    let whole : 0 * p.capacity + c.args.len ≡ c.args.len = omega arith in
    let ready = ready_alone p c.args.len old (g.V.Base.well_formed _) c.requires.parts one c.requires.in_step in
    let works = set_len_works p 0 c.args.len _ _ old new low c.part_set_len.ensures.call (subst (λ l. ChangesBy (StretchesParity l c.args.len) old new) e c.part_set_len.ensures.changes) c.part_set_len.ensures.drafts in
    stretched_keeps p 0 c.args.len old new (g.V.Base.well_formed _) c.requires.parts low ready works

pub returns-then-parts-eq1-clause-written : goal.returns-then-parts-eq1-clause-written
returns-then-parts-eq1-clause-written g c =
    let p = c.args.parts in
    let old = g.V.Base.view c.args.base.now in
    let new = g.V.Base.view c.part_set_len.new.self in
    let one : p.count ≡ 1 = c.if-parts-eq1.true in
    let low : 0 < p.count = c.requires.parts.some in
    let e : p.first ≡ p.first + 0 = omega arith in
    let whole : 0 * p.capacity + c.args.len ≡ c.args.len = omega arith in
    let ready = ready_alone p c.args.len old (g.V.Base.well_formed _) c.requires.parts one c.requires.in_step in
    let works = set_len_works p 0 c.args.len _ _ old new low c.part_set_len.ensures.call (subst (λ l. ChangesBy (StretchesParity l c.args.len) old new) e c.part_set_len.ensures.changes) c.part_set_len.ensures.drafts in
    on_ok c.part_set_len.result
    (λ written. level_resized p c.args.len old new (omega (arith, c.ranges.len.fits))
    (λ t. subst (λ n. IsResized n (joined p.capacity (parts_in p old.files)) (joined p.capacity (parts_in p new.files))) whole
    (resized_level p 0 c.args.len old new (g.V.Base.well_formed _) c.requires.parts low (λ more. absurd (omega arith)) ready works
    (subst (λ l. Reads (λ files. parity_of files l ≡ resized (parity_of old.files l) c.args.len) new) e written) t)))
    c.part_set_len.ensures.written

pub returns-clause-written : goal.returns-clause-written
returns-clause-written g c = level_as_long c.args.parts c.in_ok-end.end c.args.len (g.V.Base.view c.args.base.now) (g.V.Base.view c.find.new.base) c.requires.parts c.find.ensures.works
    (omega (arith, c.len_to-now.ensures, c.if-len-now.false, c.if-len-now-2.false)) c.in_ok-end.ensures.found

pub returns-then-len-now-clause-works : goal.returns-then-len-now-clause-works
returns-then-len-now-clause-works g c =
    let p = c.args.parts in
    let old = g.V.Base.view c.args.base.now in
    let mid = g.V.Base.view c.find.new.base in
    let one = works_level p (Stretched c.args.len) old mid (λ x. same_stretched c.args.len x x refl) c.find.ensures.works in
    let within = still_within p Stays old mid c.find.ensures.works c.requires.parts in
    let in_step = still_holds p (InStep p.capacity) old mid (g.V.Base.well_formed _) c.find.ensures.works c.requires.in_step in
    let found : Reads (IsFound p c.in_ok-end.end) mid = reads_still (IsFound p c.in_ok-end.end) old mid c.find.ensures.works c.in_ok-end.ensures.found in
    level_works_then p (Stretched c.args.len) old mid (g.V.Base.view c.grow.new.base) (stretched_then c.args.len) one c.grow.ensures.works

pub returns-then-len-now-clause-cause : goal.returns-then-len-now-clause-cause
returns-then-len-now-clause-cause g c = rose_after c.grow.result Stays (g.V.Base.view c.args.base.now) (g.V.Base.view c.find.new.base) (g.V.Base.view c.grow.new.base) c.find.ensures.works c.grow.ensures.cause

pub returns-then-len-now-clause-written : goal.returns-then-len-now-clause-written
returns-then-len-now-clause-written g c =
    let p = c.args.parts in
    let old = g.V.Base.view c.args.base.now in
    let mid = g.V.Base.view c.find.new.base in
    let one = works_level p (Stretched c.args.len) old mid (λ x. same_stretched c.args.len x x refl) c.find.ensures.works in
    let within = still_within p Stays old mid c.find.ensures.works c.requires.parts in
    let in_step = still_holds p (InStep p.capacity) old mid (g.V.Base.well_formed _) c.find.ensures.works c.requires.in_step in
    let found : Reads (IsFound p c.in_ok-end.end) mid = reads_still (IsFound p c.in_ok-end.end) old mid c.find.ensures.works c.in_ok-end.ensures.found in
    let new = g.V.Base.view c.grow.new.base in
    on_ok c.grow.result (λ is. level_resized_after p c.args.len old mid new (omega (arith, c.ranges.len.fits)) c.find.ensures.works c.grow.ensures.works.calls.goes_on.tells is) c.grow.ensures.written

pub returns-then-len-now-2-clause-works : goal.returns-then-len-now-2-clause-works
returns-then-len-now-2-clause-works g c =
    let p = c.args.parts in
    let old = g.V.Base.view c.args.base.now in
    let mid = g.V.Base.view c.find.new.base in
    let one = works_level p (Stretched c.args.len) old mid (λ x. same_stretched c.args.len x x refl) c.find.ensures.works in
    let within = still_within p Stays old mid c.find.ensures.works c.requires.parts in
    let in_step = still_holds p (InStep p.capacity) old mid (g.V.Base.well_formed _) c.find.ensures.works c.requires.in_step in
    let found : Reads (IsFound p c.in_ok-end.end) mid = reads_still (IsFound p c.in_ok-end.end) old mid c.find.ensures.works c.in_ok-end.ensures.found in
    level_works_then p (Stretched c.args.len) old mid (g.V.Base.view c.cut.new.base) (stretched_then c.args.len) one c.cut.ensures.works

pub returns-then-len-now-2-clause-cause : goal.returns-then-len-now-2-clause-cause
returns-then-len-now-2-clause-cause g c = rose_after c.cut.result Stays (g.V.Base.view c.args.base.now) (g.V.Base.view c.find.new.base) (g.V.Base.view c.cut.new.base) c.find.ensures.works c.cut.ensures.cause

pub returns-then-len-now-2-clause-written : goal.returns-then-len-now-2-clause-written
returns-then-len-now-2-clause-written g c =
    let p = c.args.parts in
    let old = g.V.Base.view c.args.base.now in
    let mid = g.V.Base.view c.find.new.base in
    let one = works_level p (Stretched c.args.len) old mid (λ x. same_stretched c.args.len x x refl) c.find.ensures.works in
    let within = still_within p Stays old mid c.find.ensures.works c.requires.parts in
    let in_step = still_holds p (InStep p.capacity) old mid (g.V.Base.well_formed _) c.find.ensures.works c.requires.in_step in
    let found : Reads (IsFound p c.in_ok-end.end) mid = reads_still (IsFound p c.in_ok-end.end) old mid c.find.ensures.works c.in_ok-end.ensures.found in
    let new = g.V.Base.view c.cut.new.base in
    on_ok c.cut.result (λ is. level_resized_after p c.args.len old mid new (omega (arith, c.ranges.len.fits)) c.find.ensures.works c.cut.ensures.works.calls.goes_on.tells is) c.cut.ensures.written

pub grow-requires-clause-at : goal.grow-requires-clause-at
grow-requires-clause-at g c =
    let p = c.args.parts in
    let old = g.V.Base.view c.args.base.now in
    let mid = g.V.Base.view c.find.new.base in
    let within = still_within p Stays old mid c.find.ensures.works c.requires.parts in
    let in_step = still_holds p (InStep p.capacity) old mid (g.V.Base.well_formed _) c.find.ensures.works c.requires.in_step in
    let found : Reads (IsFound p c.in_ok-end.end) mid = reads_still (IsFound p c.in_ok-end.end) old mid c.find.ensures.works c.in_ok-end.ensures.found in
    record { parts = within; within = c.in_ok-end.ensures.within; near = near_found p c.in_ok-end.end mid (g.V.Base.well_formed _) within found in_step; found = found }

pub cut-requires-clause-at : goal.cut-requires-clause-at
cut-requires-clause-at g c =
    let p = c.args.parts in
    let old = g.V.Base.view c.args.base.now in
    let mid = g.V.Base.view c.find.new.base in
    let within = still_within p Stays old mid c.find.ensures.works c.requires.parts in
    let in_step = still_holds p (InStep p.capacity) old mid (g.V.Base.well_formed _) c.find.ensures.works c.requires.in_step in
    let found : Reads (IsFound p c.in_ok-end.end) mid = reads_still (IsFound p c.in_ok-end.end) old mid c.find.ensures.works c.in_ok-end.ensures.found in
    record { parts = within; within = c.in_ok-end.ensures.within; near = near_found p c.in_ok-end.end mid (g.V.Base.well_formed _) within found in_step; found = found }
