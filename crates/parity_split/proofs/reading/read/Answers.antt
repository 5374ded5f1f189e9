use Rattle.std.proofs.Common.{◌≡◌, ◌+◌, ◌-◌, ◌^◌, ◌≤◌, ◌++◌, min, length, take, drop, IsTrue, refl, sym, ◌∙◌, ap, subst, arith, length-append}
use Rattle.std.proofs.lemmas.List.{length-take, get_or_append_left}
use Rattle.disk_model.specs.Bytes.{read_from}
use Rattle.disk_model.specs.Files.{Stays, parity_of}
use Rattle.disk_model.proofs.VaultLemmas.{reading_leaves}
use Rattle.parity_split.specs.Joined.{joined, level_bytes}
use Rattle.parity_split.specs.Values.{IsThere}
use Rattle.parity_split.specs.Works.{IsFound, parts_in}
use Rattle.parity_split.proofs.ReadLemmas.{if_both, read_values, read_alone, alone_is}
use Rattle.parity_split.proofs.StepLemmas.{end_length}
use Rattle.parity_split.proofs.WorksLemmas.{works_then, stays_then, still_within, read_works, rose_after, reads_still}
use Rattle.parity_split.proofs.reading.read.Goals as goal

pub returns-then-parts-eq1-clause-unwritten : goal.returns-then-parts-eq1-clause-unwritten
returns-then-parts-eq1-clause-unwritten g c = reading_leaves _ _ _ _ _ refl c.part_read.ensures.call

pub returns-clause-unwritten : goal.returns-clause-unwritten
returns-clause-unwritten g c = c.read_parts.ensures.unwritten ∙ c.find.ensures.unwritten

pub returns-then-parts-eq1-clause-works : goal.returns-then-parts-eq1-clause-works
returns-then-parts-eq1-clause-works g c = read_works _ _ _ _ _ c.part_read.ensures.call

pub returns-then-parts-eq1-clause-found : goal.returns-then-parts-eq1-clause-found
returns-then-parts-eq1-clause-found g c = λ t.
    let p = c.args.parts in
    let at = c.args.at in
    let out = c.args.out.now in
    let len = length out in
    let room = c.smaller-room.result in
    let limit = 2 ^ 64 - 1 in
    let old = g.V.Base.view c.args.base.now in
    let level = joined p.capacity (parts_in p old.files) in
    let sub = c.part_read.new.out in
    let auto_long = c.part_read.auto.out in
    let is_room : room ≡ min len (limit - at) = omega arith in
    let old_long : length (take room out) ≡ room = length-take room out ∙ omega arith in
    let long : length sub ≡ room = omega arith in
    let whole : length (sub ++ drop room out) ≡ length sub + length (drop room out) = length-append sub (drop room out) in
    let is : level ≡ parity_of old.files p.first = alone_is p old.files c.if-parts-eq1.true (omega (arith, c.requires.within, c.requires.some, ((g.V.Base.well_formed _).shape t).files.parities)) in
    if_both (λ n. n ≤ length sub) (λ n. take n sub ≡ read_from (parity_of old.files p.first) at (length (take room out))) (λ n. take n (sub ++ drop room out) ≡ read_from (level_bytes p.capacity (parts_in p old.files)) at len) c.part_read.result
    (λ n bound gave. read_alone limit at len room n level sub (sub ++ drop room out) (omega (arith, c.ranges.at.fits)) is_room (omega arith) (omega arith)
    (gave ∙ ap (λ m. read_from (parity_of old.files p.first) at m) old_long ∙ ap (λ x. read_from x at room) (sym is))
    (λ k below. get_or_append_left sub (drop room out) 0 k (omega arith)) (omega arith))
    c.part_read.ensures.bound (c.part_read.ensures.found t)

pub returns-clause-works : goal.returns-clause-works
returns-clause-works g c = works_then Stays (g.V.Base.view c.args.base.now) (g.V.Base.view c.find.new.base) (g.V.Base.view c.read_parts.new.base) stays_then c.find.ensures.works c.read_parts.ensures.works

pub returns-clause-cause : goal.returns-clause-cause
returns-clause-cause g c = rose_after c.read_parts.result Stays (g.V.Base.view c.args.base.now) (g.V.Base.view c.find.new.base) (g.V.Base.view c.read_parts.new.base) c.find.ensures.works c.read_parts.ensures.cause

pub returns-clause-found : goal.returns-clause-found
returns-clause-found g c = λ t.
    let p = c.args.parts in
    let at = c.args.at in
    let len = length c.args.out.now in
    let room = c.smaller-room.result in
    let limit = 2 ^ 64 - 1 in
    let last = c.smaller-last.result in
    let end = c.in_ok-end.end in
    let old = g.V.Base.view c.args.base.now in
    let mid = g.V.Base.view c.find.new.base in
    let level = joined p.capacity (parts_in p old.files) in
    let out = c.read_parts.new.out in
    let was : IsTrue mid.tells = c.find.ensures.works.calls.goes_on.tells ∙ t in
    let same : joined p.capacity (parts_in p mid.files) ≡ level = ap (λ f. joined p.capacity (parts_in p f)) (c.find.ensures.works.changes.reads t) in
    let found = c.in_ok-end.ensures.found t in
    let end_len = found.len in
    let long = end_length p.capacity c.requires.capacity end.part (parts_in p old.files) found.is in
    let is_room : room ≡ min len (limit - at) = omega arith in
    let is_last : last ≡ min (at + min len (limit - at)) (min (length level) limit) = omega (arith, c.len_to.ensures, c.smaller-last.ensures) in
    if_both (λ n. n ≤ length out) (λ n. IsThere at last (joined p.capacity (parts_in p mid.files)) n out) (λ n. take n out ≡ read_from (level_bytes p.capacity (parts_in p old.files)) at len) c.read_parts.result
    (λ n bound there. read_values limit at len last n level out (omega (arith, c.ranges.at.fits)) is_last bound (subst (λ x. IsThere at last x n out) same there))
    c.read_parts.ensures.bound (c.read_parts.ensures.found was)

pub read_parts-requires-clause-at : goal.read_parts-requires-clause-at
read_parts-requires-clause-at g c = record {
  parts = still_within c.args.parts Stays (g.V.Base.view c.args.base.now) (g.V.Base.view c.find.new.base) c.find.ensures.works c.requires;
  within = c.in_ok-end.ensures.within;
  found = reads_still (IsFound c.args.parts c.in_ok-end.end) (g.V.Base.view c.args.base.now) (g.V.Base.view c.find.new.base) c.find.ensures.works c.in_ok-end.ensures.found;
}
