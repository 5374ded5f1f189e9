use Rattle.std.proofs.Common.{◌≡◌, ◌+◌, ◌-◌, ◌*◌, ◌^◌, ◌<◌, ◌≤◌, min, length, IsTrue, refl, sym, ◌∙◌, ap, subst, arith}
use Rattle.disk_model.specs.Files.{Stays}
use Rattle.parity_split.specs.Joined.{joined, part_of}
use Rattle.parity_split.specs.Values.{PieceIsThere, IsThere}
use Rattle.parity_split.specs.Works.{parts_in}
use Rattle.parity_split.proofs.ReadLemmas.{there_more, there_at_end, if_ok}
use Rattle.parity_split.proofs.WorksLemmas.{works_start, works_then, stays_then, still_within, rose_at, rose_after}
use Rattle.parity_split.proofs.WriteLemmas.{exact_end}
use Rattle.parity_split.proofs.reading.read_parts.Goals as goal

pub loop-part-init : goal.loop-part-init
loop-part-init g c = record { works = works_start Stays _ (λ files. refl); unwritten = refl; within = c.requires.at.parts; there = λ t k below inside. absurd (omega arith) }

pub loop-part-preserved : goal.loop-part-preserved
loop-part-preserved g c =
    let p = c.args.parts in
    let K = p.capacity in
    let part = c.loop-part.part in
    let at = c.args.at in
    let last = c.args.last in
    let to = c.smaller-to.result in
    let old = g.V.Base.view c.args.base.now in
    let mid = g.V.Base.view c.loop-part.base in
    let new = g.V.Base.view c.read_piece.new.base in
    let works = works_then Stays old mid new stays_then c.loop-part.invariant.works c.read_piece.ensures.works in
    let is_to : to ≡ min last ((part + 1) * K) = exact_end last ((part + 1) * K) (2 ^ 64 - 1) c.start.result to c.start.ensures c.smaller-to.ensures (omega (arith, c.ranges.last.fits)) in
    record {
      works = works;
      unwritten = c.read_piece.ensures.unwritten ∙ c.loop-part.invariant.unwritten;
      within = still_within p Stays old new works c.requires.at.parts;
      there = λ t.
          let reads = parts_in p old.files in
          let was : IsTrue mid.tells = c.loop-part.invariant.works.calls.goes_on.tells ∙ t in
          let same : parts_in p mid.files ≡ reads = ap (parts_in p) (c.loop-part.invariant.works.changes.reads t) in
          let end = (c.requires.at.found t).is in
          let full : K ≤ length (part_of reads part) = end.full part (omega arith) in
          let more : (part + 1) * K ≡ part * K + K = omega arith in
          let room : to ≤ part * K + length (part_of reads part) = omega arith in
          let piece = c.in_ok-there.ensures.found was (subst (λ r. to ≤ part * K + length (part_of r part)) (sym same) room) in
          let here = subst (λ r. PieceIsThere at to (part * K) (part_of r part) c.in_ok-there.there c.read_piece.new.out) same piece in
          there_more K c.args.end.part part at last c.in_ok-there.there reads c.loop-part.out c.read_piece.new.out end (omega arith) (c.loop-part.invariant.there t) c.read_piece.ensures.earlier
          (subst (λ n. PieceIsThere at n (part * K) (part_of reads part) c.in_ok-there.there c.read_piece.new.out) is_to here);
    }

pub returns-in_err-there-clause-unwritten : goal.returns-in_err-there-clause-unwritten
returns-in_err-there-clause-unwritten g c = c.read_piece.ensures.unwritten ∙ c.loop-part.invariant.unwritten

pub returns-then-there-saturating_sub-clause-unwritten : goal.returns-then-there-saturating_sub-clause-unwritten
returns-then-there-saturating_sub-clause-unwritten g c = c.read_piece.ensures.unwritten ∙ c.loop-part.invariant.unwritten

pub returns-clause-unwritten : goal.returns-clause-unwritten
returns-clause-unwritten g c = c.read_piece-2.ensures.unwritten ∙ c.loop-part.invariant.unwritten

pub returns-in_err-there-clause-works : goal.returns-in_err-there-clause-works
returns-in_err-there-clause-works g c = works_then Stays (g.V.Base.view c.args.base.now) (g.V.Base.view c.loop-part.base) (g.V.Base.view c.read_piece.new.base) stays_then c.loop-part.invariant.works c.read_piece.ensures.works

pub returns-then-there-saturating_sub-clause-works : goal.returns-then-there-saturating_sub-clause-works
returns-then-there-saturating_sub-clause-works g c = works_then Stays (g.V.Base.view c.args.base.now) (g.V.Base.view c.loop-part.base) (g.V.Base.view c.read_piece.new.base) stays_then c.loop-part.invariant.works c.read_piece.ensures.works

pub returns-then-there-saturating_sub-clause-found : goal.returns-then-there-saturating_sub-clause-found
returns-then-there-saturating_sub-clause-found g c = λ t.
    let p = c.args.parts in
    let K = p.capacity in
    let part = c.loop-part.part in
    let last = c.args.last in
    let to = c.smaller-to.result in
    let old = g.V.Base.view c.args.base.now in
    let mid = g.V.Base.view c.loop-part.base in
    let is_to : to ≡ min last ((part + 1) * K) = exact_end last ((part + 1) * K) (2 ^ 64 - 1) c.start.result to c.start.ensures c.smaller-to.ensures (omega (arith, c.ranges.last.fits)) in
    let reads = parts_in p old.files in
    let was : IsTrue mid.tells = c.loop-part.invariant.works.calls.goes_on.tells ∙ t in
    let same : parts_in p mid.files ≡ reads = ap (parts_in p) (c.loop-part.invariant.works.changes.reads t) in
    let end = (c.requires.at.found t).is in
    let full : K ≤ length (part_of reads part) = end.full part (omega arith) in
    let more : (part + 1) * K ≡ part * K + K = omega arith in
    let room : to ≤ part * K + length (part_of reads part) = omega arith in
    let piece = c.in_ok-there.ensures.found was (subst (λ r. to ≤ part * K + length (part_of r part)) (sym same) room) in
    let all = piece.all in
    absurd (omega (arith, c.if-there-saturating_sub.true, c.saturating_sub.ensures))

pub returns-in_err-there-clause-cause : goal.returns-in_err-there-clause-cause
returns-in_err-there-clause-cause g c = rose_at c.from_residual.result Stays (g.V.Base.view c.args.base.now) (g.V.Base.view c.loop-part.base) (g.V.Base.view c.read_piece.new.base) c.loop-part.invariant.works c.in_err-there.ensures.cause

pub returns-clause-works : goal.returns-clause-works
returns-clause-works g c = works_then Stays (g.V.Base.view c.args.base.now) (g.V.Base.view c.loop-part.base) (g.V.Base.view c.read_piece-2.new.base) stays_then c.loop-part.invariant.works c.read_piece-2.ensures.works

pub returns-clause-cause : goal.returns-clause-cause
returns-clause-cause g c = rose_after c.read_piece-2.result Stays (g.V.Base.view c.args.base.now) (g.V.Base.view c.loop-part.base) (g.V.Base.view c.read_piece-2.new.base) c.loop-part.invariant.works c.read_piece-2.ensures.cause

pub returns-clause-found : goal.returns-clause-found
returns-clause-found g c = λ t.
    let p = c.args.parts in
    let K = p.capacity in
    let part = c.args.end.part in
    let at = c.args.at in
    let last = c.args.last in
    let old = g.V.Base.view c.args.base.now in
    let mid = g.V.Base.view c.loop-part.base in
    let reads = parts_in p old.files in
    let was : IsTrue mid.tells = c.loop-part.invariant.works.calls.goes_on.tells ∙ t in
    let same : parts_in p mid.files ≡ reads = ap (parts_in p) (c.loop-part.invariant.works.changes.reads t) in
    let done : c.loop-part.part ≡ part = omega arith in
    let found = c.requires.at.found t in
    let len = found.len in
    let room : last ≤ part * K + length (part_of reads part) = omega (arith, c.requires.inside) in
    let piece = c.read_piece-2.ensures.found was (subst (λ r. last ≤ part * K + length (part_of r part)) (sym same) room) in
    if_ok (λ there. PieceIsThere at last (part * K) (part_of (parts_in p mid.files) part) there c.read_piece-2.new.out) (λ there. IsThere at last (joined K reads) there c.read_piece-2.new.out) c.read_piece-2.result
    (λ there is. there_at_end K part at last there reads c.loop-part.out c.read_piece-2.new.out found.is room (λ k below inside. c.loop-part.invariant.there t k (subst (λ m. at + k < m * K) (sym done) below) inside) c.read_piece-2.ensures.earlier
    (subst (λ r. PieceIsThere at last (part * K) (part_of r part) there c.read_piece-2.new.out) same is))
    piece

pub read_piece-requires-clause-part : goal.read_piece-requires-clause-part
read_piece-requires-clause-part g c = record { parts = c.loop-part.invariant.within; within = omega (arith, c.requires.at.within) }

pub read_piece-requires-2-clause-part : goal.read_piece-requires-2-clause-part
read_piece-requires-2-clause-part g c = record { parts = c.loop-part.invariant.within; within = c.requires.at.within }
