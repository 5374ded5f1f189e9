use Rattle.std.proofs.Common.{◌≡◌, ◌+◌, ◌-◌, ◌*◌, ◌^◌, ◌<◌, ◌≤◌, min, max, length, take, drop, get_or, refl, ◌∙◌, ap, arith}
use Rattle.disk_model.specs.Bytes.{Torn}
use Rattle.disk_model.proofs.VaultLemmas.{on_ok}
use Rattle.parity_split.specs.Works.{LevelBy}
use Rattle.parity_split.proofs.PieceLemmas.{same_torn}
use Rattle.parity_split.proofs.ValueLemmas.{put_below_skip}
use Rattle.parity_split.proofs.WorksLemmas.{works_start, level_stays, write_works}
use Rattle.parity_split.proofs.WriteLemmas.{before_works, before_near, before_ready, before_written, piece_values, exact_start, exact_end, piece_length, piece_end}
use Rattle.parity_split.proofs.writing.write_before.Goals as goal

pub returns-then-from-to-clause-works : goal.returns-then-from-to-clause-works
returns-then-from-to-clause-works g c =
    let n = length c.args.bytes.now in
    works_start (LevelBy c.args.parts (Torn c.args.at n)) _ (λ files. level_stays c.args.parts (Torn c.args.at n) (λ x. same_torn c.args.at n x x refl) files files refl)

pub returns-then-from-to-clause-written : goal.returns-then-from-to-clause-written
returns-then-from-to-clause-written g c = λ start so_far t.
    let p = c.args.parts in
    let next : (c.args.part + 1) * p.capacity ≡ c.args.part * p.capacity + p.capacity = omega arith in
    let e1 = c.start-start.ensures in
    let e2 = c.larger-from.ensures in
    let e3 = c.start.ensures in
    let e4 = c.smaller-to.ensures in
    let e5 = c.if-from-to.true in
    let e6 = c.requires.room in
    put_below_skip (c.args.part * p.capacity) (c.args.part * p.capacity + p.capacity) c.args.at c.args.bytes.now start _ (omega arith) (omega arith) (so_far t)

pub returns-then-from-to-clause-ready : goal.returns-then-from-to-clause-ready
returns-then-from-to-clause-ready g c = λ len holds. holds

pub returns-clause-works : goal.returns-clause-works
returns-clause-works g c =
    let p = c.args.parts in
    let part = c.args.part in
    let at = c.args.at in
    let bytes = c.args.bytes.now in
    let from = c.larger-from.result in
    let to = c.smaller-to.result in
    let o = from - c.start-start.result in
    let piece = take (to - at - (from - at)) (drop (from - at) bytes) in
    let old = g.V.Base.view c.args.base.now in
    let new = g.V.Base.view c.part_write.new.self in
    let next : (part + 1) * p.capacity ≡ part * p.capacity + p.capacity = omega arith in
    let room : at + length bytes ≤ 2 ^ 64 - 1 = omega (arith, c.requires.room) in
    let below : from < to = c.if-from-to.false in
    let is_end : to ≡ min (at + length bytes) (part * p.capacity + p.capacity) = exact_end (at + length bytes) ((part + 1) * p.capacity) (2 ^ 64 - 1) c.start.result to c.start.ensures c.smaller-to.ensures room ∙ ap (λ m. min (at + length bytes) m) next in
    let high : to ≤ at + length bytes = omega (arith, is_end) in
    let is_start : c.start-start.result ≡ part * p.capacity = exact_start (part * p.capacity) (2 ^ 64 - 1) c.start-start.result at from to c.start-start.ensures c.larger-from.ensures below (omega (arith, high, room)) in
    let greater : from ≡ max at (part * p.capacity) = c.larger-from.ensures ∙ ap (λ m. max at m) is_start in
    let at_from : part * p.capacity + o ≡ from = omega (arith, is_start, greater) in
    let long : length piece ≡ to - from = piece_length bytes at from to (omega (arith, greater)) (omega (arith, below)) high in
    let is_from : part * p.capacity + o ≡ max at (part * p.capacity) = at_from ∙ greater in
    let is_to : part * p.capacity + o + length piece ≡ min (at + length bytes) (part * p.capacity + p.capacity) = piece_end (part * p.capacity) o (length piece) from to (min (at + length bytes) (part * p.capacity + p.capacity)) at_from long (omega (arith, below)) is_end in
    let top : part * p.capacity + o + length piece ≤ part * p.capacity + p.capacity = omega (arith, is_to) in
    let top_at : part * p.capacity + o + length piece ≤ at + length bytes = omega (arith, is_to) in
    let inside : o + length piece ≤ p.capacity = omega (arith, top) in
    let low : at ≤ part * p.capacity + o = omega (arith, is_from) in
    let works = write_works p part o (length piece) _ _ old new (omega (arith, c.requires.part.before, c.requires.part.within)) c.part_write.ensures.call c.part_write.ensures.changes c.part_write.ensures.drafts in
    before_works p c.args.end part o (length piece) at (length bytes) old new (g.V.Base.well_formed _) c.requires.part.parts c.requires.part.before c.requires.part.within inside low top_at c.requires.part.near works

pub returns-clause-near : goal.returns-clause-near
returns-clause-near g c =
    let p = c.args.parts in
    let part = c.args.part in
    let at = c.args.at in
    let bytes = c.args.bytes.now in
    let from = c.larger-from.result in
    let to = c.smaller-to.result in
    let o = from - c.start-start.result in
    let piece = take (to - at - (from - at)) (drop (from - at) bytes) in
    let old = g.V.Base.view c.args.base.now in
    let new = g.V.Base.view c.part_write.new.self in
    let next : (part + 1) * p.capacity ≡ part * p.capacity + p.capacity = omega arith in
    let room : at + length bytes ≤ 2 ^ 64 - 1 = omega (arith, c.requires.room) in
    let below : from < to = c.if-from-to.false in
    let is_end : to ≡ min (at + length bytes) (part * p.capacity + p.capacity) = exact_end (at + length bytes) ((part + 1) * p.capacity) (2 ^ 64 - 1) c.start.result to c.start.ensures c.smaller-to.ensures room ∙ ap (λ m. min (at + length bytes) m) next in
    let high : to ≤ at + length bytes = omega (arith, is_end) in
    let is_start : c.start-start.result ≡ part * p.capacity = exact_start (part * p.capacity) (2 ^ 64 - 1) c.start-start.result at from to c.start-start.ensures c.larger-from.ensures below (omega (arith, high, room)) in
    let greater : from ≡ max at (part * p.capacity) = c.larger-from.ensures ∙ ap (λ m. max at m) is_start in
    let at_from : part * p.capacity + o ≡ from = omega (arith, is_start, greater) in
    let long : length piece ≡ to - from = piece_length bytes at from to (omega (arith, greater)) (omega (arith, below)) high in
    let is_from : part * p.capacity + o ≡ max at (part * p.capacity) = at_from ∙ greater in
    let is_to : part * p.capacity + o + length piece ≡ min (at + length bytes) (part * p.capacity + p.capacity) = piece_end (part * p.capacity) o (length piece) from to (min (at + length bytes) (part * p.capacity + p.capacity)) at_from long (omega (arith, below)) is_end in
    let top : part * p.capacity + o + length piece ≤ part * p.capacity + p.capacity = omega (arith, is_to) in
    let top_at : part * p.capacity + o + length piece ≤ at + length bytes = omega (arith, is_to) in
    let inside : o + length piece ≤ p.capacity = omega (arith, top) in
    let low : at ≤ part * p.capacity + o = omega (arith, is_from) in
    let works = write_works p part o (length piece) _ _ old new (omega (arith, c.requires.part.before, c.requires.part.within)) c.part_write.ensures.call c.part_write.ensures.changes c.part_write.ensures.drafts in
    before_near p c.args.end part o (length piece) old new (g.V.Base.well_formed _) c.requires.part.parts c.requires.part.before c.requires.part.within c.requires.part.near works

pub returns-clause-ready : goal.returns-clause-ready
returns-clause-ready g c = λ len holds.
    let p = c.args.parts in
    let part = c.args.part in
    let at = c.args.at in
    let bytes = c.args.bytes.now in
    let from = c.larger-from.result in
    let to = c.smaller-to.result in
    let o = from - c.start-start.result in
    let piece = take (to - at - (from - at)) (drop (from - at) bytes) in
    let old = g.V.Base.view c.args.base.now in
    let new = g.V.Base.view c.part_write.new.self in
    let next : (part + 1) * p.capacity ≡ part * p.capacity + p.capacity = omega arith in
    let room : at + length bytes ≤ 2 ^ 64 - 1 = omega (arith, c.requires.room) in
    let below : from < to = c.if-from-to.false in
    let is_end : to ≡ min (at + length bytes) (part * p.capacity + p.capacity) = exact_end (at + length bytes) ((part + 1) * p.capacity) (2 ^ 64 - 1) c.start.result to c.start.ensures c.smaller-to.ensures room ∙ ap (λ m. min (at + length bytes) m) next in
    let high : to ≤ at + length bytes = omega (arith, is_end) in
    let is_start : c.start-start.result ≡ part * p.capacity = exact_start (part * p.capacity) (2 ^ 64 - 1) c.start-start.result at from to c.start-start.ensures c.larger-from.ensures below (omega (arith, high, room)) in
    let greater : from ≡ max at (part * p.capacity) = c.larger-from.ensures ∙ ap (λ m. max at m) is_start in
    let at_from : part * p.capacity + o ≡ from = omega (arith, is_start, greater) in
    let long : length piece ≡ to - from = piece_length bytes at from to (omega (arith, greater)) (omega (arith, below)) high in
    let is_from : part * p.capacity + o ≡ max at (part * p.capacity) = at_from ∙ greater in
    let is_to : part * p.capacity + o + length piece ≡ min (at + length bytes) (part * p.capacity + p.capacity) = piece_end (part * p.capacity) o (length piece) from to (min (at + length bytes) (part * p.capacity + p.capacity)) at_from long (omega (arith, below)) is_end in
    let top : part * p.capacity + o + length piece ≤ part * p.capacity + p.capacity = omega (arith, is_to) in
    let top_at : part * p.capacity + o + length piece ≤ at + length bytes = omega (arith, is_to) in
    let inside : o + length piece ≤ p.capacity = omega (arith, top) in
    let low : at ≤ part * p.capacity + o = omega (arith, is_from) in
    let works = write_works p part o (length piece) _ _ old new (omega (arith, c.requires.part.before, c.requires.part.within)) c.part_write.ensures.call c.part_write.ensures.changes c.part_write.ensures.drafts in
    before_ready p c.args.end part o (length piece) len old new (g.V.Base.well_formed _) c.requires.part.parts c.requires.part.before c.requires.part.within holds works

pub returns-clause-written : goal.returns-clause-written
returns-clause-written g c =
    let p = c.args.parts in
    let part = c.args.part in
    let at = c.args.at in
    let bytes = c.args.bytes.now in
    let from = c.larger-from.result in
    let to = c.smaller-to.result in
    let o = from - c.start-start.result in
    let piece = take (to - at - (from - at)) (drop (from - at) bytes) in
    let old = g.V.Base.view c.args.base.now in
    let new = g.V.Base.view c.part_write.new.self in
    let next : (part + 1) * p.capacity ≡ part * p.capacity + p.capacity = omega arith in
    let room : at + length bytes ≤ 2 ^ 64 - 1 = omega (arith, c.requires.room) in
    let below : from < to = c.if-from-to.false in
    let is_end : to ≡ min (at + length bytes) (part * p.capacity + p.capacity) = exact_end (at + length bytes) ((part + 1) * p.capacity) (2 ^ 64 - 1) c.start.result to c.start.ensures c.smaller-to.ensures room ∙ ap (λ m. min (at + length bytes) m) next in
    let high : to ≤ at + length bytes = omega (arith, is_end) in
    let is_start : c.start-start.result ≡ part * p.capacity = exact_start (part * p.capacity) (2 ^ 64 - 1) c.start-start.result at from to c.start-start.ensures c.larger-from.ensures below (omega (arith, high, room)) in
    let greater : from ≡ max at (part * p.capacity) = c.larger-from.ensures ∙ ap (λ m. max at m) is_start in
    let at_from : part * p.capacity + o ≡ from = omega (arith, is_start, greater) in
    let long : length piece ≡ to - from = piece_length bytes at from to (omega (arith, greater)) (omega (arith, below)) high in
    let is_from : part * p.capacity + o ≡ max at (part * p.capacity) = at_from ∙ greater in
    let is_to : part * p.capacity + o + length piece ≡ min (at + length bytes) (part * p.capacity + p.capacity) = piece_end (part * p.capacity) o (length piece) from to (min (at + length bytes) (part * p.capacity + p.capacity)) at_from long (omega (arith, below)) is_end in
    let top : part * p.capacity + o + length piece ≤ part * p.capacity + p.capacity = omega (arith, is_to) in
    let top_at : part * p.capacity + o + length piece ≤ at + length bytes = omega (arith, is_to) in
    let inside : o + length piece ≤ p.capacity = omega (arith, top) in
    let low : at ≤ part * p.capacity + o = omega (arith, is_from) in
    let works = write_works p part o (length piece) _ _ old new (omega (arith, c.requires.part.before, c.requires.part.within)) c.part_write.ensures.call c.part_write.ensures.changes c.part_write.ensures.drafts in
    on_ok c.part_write.result
    (λ written start so_far.
    before_written p c.args.end part o (length piece) at bytes piece start old new (g.V.Base.well_formed _) c.requires.part.parts c.requires.part.before c.requires.part.within is_from is_to
    (λ k within. piece_values bytes (from - at) (to - at - (from - at)) k within ∙ ap (λ m. get_or bytes m 0) (omega (arith, at_from, low)))
    c.requires.part.near works written so_far)
    c.part_write.ensures.written

pub returns-clause-cause : goal.returns-clause-cause
returns-clause-cause g c = c.part_write.ensures.call.cause
