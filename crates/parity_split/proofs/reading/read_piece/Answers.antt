use Rattle.std.proofs.Common.{◌≡◌, ◌+◌, ◌-◌, ◌*◌, ◌^◌, ◌<◌, max, min, length, take, drop, refl, sym, ◌∙◌, ap, arith}
use Rattle.std.proofs.lemmas.List.{length-take, length-drop}
use Rattle.disk_model.specs.Files.{parity_of}
use Rattle.parity_split.specs.Joined.{part_of}
use Rattle.parity_split.specs.Works.{parts_in}
use Rattle.disk_model.proofs.VaultLemmas.{reading_leaves}
use Rattle.parity_split.proofs.ReadLemmas.{piece_there, in_part}
use Rattle.parity_split.proofs.WorksLemmas.{part_is}
use Rattle.parity_split.proofs.WriteLemmas.{exact_start}
use Rattle.parity_split.proofs.reading.read_piece.Goals as goal

pub returns-in_err-got-clause-unwritten : goal.returns-in_err-got-clause-unwritten
returns-in_err-got-clause-unwritten g c = reading_leaves _ _ _ _ _ refl c.in_err-got.ensures.call

pub returns-clause-unwritten : goal.returns-clause-unwritten
returns-clause-unwritten g c = reading_leaves _ _ _ _ _ refl c.in_ok-got.ensures.call

pub returns-clause-found : goal.returns-clause-found
returns-clause-found g c = λ tells room.
    let p = c.args.parts in
    let part = c.args.part in
    let at = c.args.at in
    let to = c.args.to in
    let from = c.larger-from.result in
    let start = c.start-start.result in
    let out = c.args.out.now in
    let sub = c.part_read.new.out in
    let files = (g.V.Base.view c.args.base.now).files in
    let given = parity_of files (p.first + part) in
    let got = c.in_ok-got.got in
    let below : from < to = omega (arith, c.if-from-to.false) in
    let is_start : start ≡ part * p.capacity = exact_start (part * p.capacity) (2 ^ 64 - 1) start at from to c.start-start.ensures c.larger-from.ensures below (omega (arith, c.ranges.to.fits)) in
    let is_from : from ≡ max at (part * p.capacity) = c.larger-from.ensures ∙ ap (λ m. max at m) is_start in
    let before = from - at in
    let count = to - at - before in
    let many : count ≡ to - from = omega arith in
    let old_long : length (take count (drop before out)) ≡ to - from = length-take count (drop before out) ∙ ap (λ m. min count m) (length-drop before out) ∙ omega (arith, c.requires.room) in
    let auto_long = c.part_read.auto.out in
    let long : length sub ≡ to - from = omega arith in
    let found : take got sub ≡ take (length (take count (drop before out))) (drop (from - start) given) = c.in_ok-got.ensures.found tells in
    piece_there at to (part * p.capacity) from got (part_of (parts_in p files) part) sub _ is_from below room c.in_ok-got.ensures.bound long
    (found ∙ ap (λ m. take m (drop (from - start) given)) old_long ∙ ap (λ s. take (to - from) (drop (from - s) given)) is_start ∙ ap (λ x. take (to - from) (drop (from - part * p.capacity) x)) (sym (part_is p files part c.requires.part.within)))
    (λ k inside. in_part before count out sub (omega (arith, c.requires.room)) (omega arith) k (omega arith))
