use Rattle.std.proofs.Common.{◌≡◌, ◌+◌, ◌-◌, ◌*◌, ◌^◌, ◌≤◌, min, max, length, take, drop, get_or, ◌∙◌, ap, arith}
use Rattle.std.proofs.lemmas.List.{length-take, length-drop}
use Rattle.disk_model.proofs.VaultLemmas.{on_ok}
use Rattle.parity_split.proofs.WorksLemmas.{write_works}
use Rattle.parity_split.proofs.WriteLemmas.{end_works, end_keeps, end_written, piece_values, exact_low}
use Rattle.parity_split.proofs.writing.write_end.Goals as goal

pub returns-clause-works : goal.returns-clause-works
returns-clause-works g c =
    let p = c.args.parts in
    let part = c.args.end.part in
    let at = c.args.at in
    let bytes = c.args.bytes.now in
    let from = c.larger-from.result in
    let o = from - c.start-start.result in
    let piece = take (length bytes - (from - at)) (drop (from - at) bytes) in
    let old = g.V.Base.view c.args.base.now in
    let new = g.V.Base.view c.part_write.new.self in
    let room : part * p.capacity ≤ 2 ^ 64 - 1 = omega (arith, c.requires.at.place.is, c.requires.room) in
    let is_start : c.start-start.result ≡ part * p.capacity = exact_low (part * p.capacity) (2 ^ 64 - 1) c.start-start.result c.start-start.ensures room in
    let greater : from ≡ max at (part * p.capacity) = c.larger-from.ensures ∙ ap (λ m. max at m) is_start in
    let at_from : part * p.capacity + o ≡ from = omega (arith, is_start, greater) in
    let low : at ≤ from = omega (arith, greater) in
    let long : length piece ≡ length bytes - (from - at) = length-take (length bytes - (from - at)) (drop (from - at) bytes) ∙ ap (λ m. min (length bytes - (from - at)) m) (length-drop (from - at) bytes) ∙ omega arith in
    let in_bytes : from ≤ at + length bytes = omega (arith, greater, c.requires.at.place.is) in
    let is_from : part * p.capacity + o ≡ max at (part * p.capacity) = at_from ∙ greater in
    let to_end : part * p.capacity + o + length piece ≡ at + length bytes = omega (arith, at_from, long, low, in_bytes) in
    let whole : o + length piece ≡ c.args.end.len = omega (arith, to_end, c.requires.at.place.is) in
    let works = write_works p part o (length piece) _ _ old new c.requires.at.place.within c.part_write.ensures.call c.part_write.ensures.changes c.part_write.ensures.drafts in
    end_works p part o (length piece) c.args.end.len at (length bytes) old new (g.V.Base.well_formed _) c.requires.at.parts c.requires.at.place.within whole c.requires.at.place.room (omega (arith, at_from, low)) (omega (arith, c.requires.at.place.is)) c.requires.at.ready works

pub returns-clause-kept : goal.returns-clause-kept
returns-clause-kept g c =
    let p = c.args.parts in
    let part = c.args.end.part in
    let at = c.args.at in
    let bytes = c.args.bytes.now in
    let from = c.larger-from.result in
    let o = from - c.start-start.result in
    let piece = take (length bytes - (from - at)) (drop (from - at) bytes) in
    let old = g.V.Base.view c.args.base.now in
    let new = g.V.Base.view c.part_write.new.self in
    let room : part * p.capacity ≤ 2 ^ 64 - 1 = omega (arith, c.requires.at.place.is, c.requires.room) in
    let is_start : c.start-start.result ≡ part * p.capacity = exact_low (part * p.capacity) (2 ^ 64 - 1) c.start-start.result c.start-start.ensures room in
    let greater : from ≡ max at (part * p.capacity) = c.larger-from.ensures ∙ ap (λ m. max at m) is_start in
    let at_from : part * p.capacity + o ≡ from = omega (arith, is_start, greater) in
    let low : at ≤ from = omega (arith, greater) in
    let long : length piece ≡ length bytes - (from - at) = length-take (length bytes - (from - at)) (drop (from - at) bytes) ∙ ap (λ m. min (length bytes - (from - at)) m) (length-drop (from - at) bytes) ∙ omega arith in
    let in_bytes : from ≤ at + length bytes = omega (arith, greater, c.requires.at.place.is) in
    let is_from : part * p.capacity + o ≡ max at (part * p.capacity) = at_from ∙ greater in
    let to_end : part * p.capacity + o + length piece ≡ at + length bytes = omega (arith, at_from, long, low, in_bytes) in
    let whole : o + length piece ≡ c.args.end.len = omega (arith, to_end, c.requires.at.place.is) in
    let works = write_works p part o (length piece) _ _ old new c.requires.at.place.within c.part_write.ensures.call c.part_write.ensures.changes c.part_write.ensures.drafts in
    end_keeps p part o (length piece) c.args.end.len old new (g.V.Base.well_formed _) c.requires.at.parts c.requires.at.place.within whole c.requires.at.ready works

pub returns-clause-written : goal.returns-clause-written
returns-clause-written g c =
    let p = c.args.parts in
    let part = c.args.end.part in
    let at = c.args.at in
    let bytes = c.args.bytes.now in
    let from = c.larger-from.result in
    let o = from - c.start-start.result in
    let piece = take (length bytes - (from - at)) (drop (from - at) bytes) in
    let old = g.V.Base.view c.args.base.now in
    let new = g.V.Base.view c.part_write.new.self in
    let room : part * p.capacity ≤ 2 ^ 64 - 1 = omega (arith, c.requires.at.place.is, c.requires.room) in
    let is_start : c.start-start.result ≡ part * p.capacity = exact_low (part * p.capacity) (2 ^ 64 - 1) c.start-start.result c.start-start.ensures room in
    let greater : from ≡ max at (part * p.capacity) = c.larger-from.ensures ∙ ap (λ m. max at m) is_start in
    let at_from : part * p.capacity + o ≡ from = omega (arith, is_start, greater) in
    let low : at ≤ from = omega (arith, greater) in
    let long : length piece ≡ length bytes - (from - at) = length-take (length bytes - (from - at)) (drop (from - at) bytes) ∙ ap (λ m. min (length bytes - (from - at)) m) (length-drop (from - at) bytes) ∙ omega arith in
    let in_bytes : from ≤ at + length bytes = omega (arith, greater, c.requires.at.place.is) in
    let is_from : part * p.capacity + o ≡ max at (part * p.capacity) = at_from ∙ greater in
    let to_end : part * p.capacity + o + length piece ≡ at + length bytes = omega (arith, at_from, long, low, in_bytes) in
    let whole : o + length piece ≡ c.args.end.len = omega (arith, to_end, c.requires.at.place.is) in
    let works = write_works p part o (length piece) _ _ old new c.requires.at.place.within c.part_write.ensures.call c.part_write.ensures.changes c.part_write.ensures.drafts in
    on_ok c.part_write.result
    (λ written start so_far.
    end_written p part o (length piece) c.args.end.len at bytes piece start old new (g.V.Base.well_formed _) c.requires.at.parts c.requires.at.place.within whole c.requires.at.place.room is_from to_end
    (λ k within. piece_values bytes (from - at) (length bytes - (from - at)) k within ∙ ap (λ m. get_or bytes m 0) (omega (arith, at_from, low)))
    c.requires.at.ready works written so_far)
    c.part_write.ensures.written

pub returns-clause-cause : goal.returns-clause-cause
returns-clause-cause g c = c.part_write.ensures.call.cause
