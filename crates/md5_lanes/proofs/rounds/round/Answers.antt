use Rattle.std.proofs.Common.{◌∷◌, [], slice_index, ap, ◌∙◌}
use Rattle.std.specs.Int.{rotate_left, w32}
use Rattle.md5.specs.Md5.{add32}
use Rattle.md5_lanes.proofs.LaneLemmas.{own_lanes, splat_lanes, zip_lanes}
use Rattle.md5_lanes.proofs.RoundLemmas.{add32_last}
use Rattle.md5_lanes.proofs.rounds.round.Goals as goal

pub invariant_of-result : goal.invariant_of-result
invariant_of-result c =
    let e = c.args.v.eight in
    let b = zip_lanes add32 (own_lanes c.args.v.b e.1) (own_lanes c.rotated.result c.rotated.ensures.long) in
    record { eight = (e.3, b.len, e.1, e.2) }

pub returns : goal.returns
returns c = λ i lt.
    let v = c.args.v in
    let word = own_lanes c.args.word c.fits-word.0 in
    let f = own_lanes c.args.f c.fits-f.0 in
    let sum = zip_lanes add32 (zip_lanes add32 (zip_lanes add32 (own_lanes v.a v.eight.0) word) (splat_lanes c.args.constant)) f in
    let b = zip_lanes add32 (own_lanes v.b v.eight.1) (own_lanes c.rotated.result c.rotated.ensures.long) in
    let last = add32_last (slice_index v.a i) (slice_index c.args.f i) c.args.constant (slice_index c.args.word i) in
    let turned = c.rotated.ensures.lanes i lt ∙ ap (λ x. rotate_left w32 x c.args.shift) (sum.at i lt ∙ last) in
    ap (λ x. slice_index v.d i ∷ x ∷ slice_index v.b i ∷ slice_index v.c i ∷ []) (b.at i lt ∙ ap (add32 (slice_index v.b i)) turned)
