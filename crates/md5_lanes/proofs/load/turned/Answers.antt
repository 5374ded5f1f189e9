use Rattle.std.proofs.Common.{◌≡◌, ◌∷◌, [], ◌++◌, arith, slice_index, slice_index_or, get_or}
use Rattle.md5_lanes.proofs.LoadLemmas.{for_four, in_first, in_second}
use Rattle.md5_lanes.proofs.RoundLemmas.{four_same}
use Rattle.md5_lanes.proofs.load.turned.Goals as goal

pub returns : goal.returns
returns c =
    let x = c.args.a in
    let y = c.args.b in
    let z = c.args.c in
    let w = c.args.d in
    for_four (λ j. slice_index_or
    ((get_or (x ++ z) 0 0 ∷ get_or (y ++ w) 0 0 ∷ get_or (x ++ z) 4 0 ∷ get_or (y ++ w) 4 0 ∷ [])
    ∷ (get_or (x ++ z) 1 0 ∷ get_or (y ++ w) 1 0 ∷ get_or (x ++ z) 5 0 ∷ get_or (y ++ w) 5 0 ∷ [])
    ∷ (get_or (x ++ z) 2 0 ∷ get_or (y ++ w) 2 0 ∷ get_or (x ++ z) 6 0 ∷ get_or (y ++ w) 6 0 ∷ [])
    ∷ (get_or (x ++ z) 3 0 ∷ get_or (y ++ w) 3 0 ∷ get_or (x ++ z) 7 0 ∷ get_or (y ++ w) 7 0 ∷ []) ∷ []) j []
    ≡ slice_index x j ∷ slice_index y j ∷ slice_index z j ∷ slice_index w j ∷ [])
    (four_same (in_first x z 0 c.fits-a.0 (omega arith)) (in_first y w 0 c.fits-b.0 (omega arith)) (in_second x z 0 c.fits-a.0) (in_second y w 0 c.fits-b.0))
    (four_same (in_first x z 1 c.fits-a.0 (omega arith)) (in_first y w 1 c.fits-b.0 (omega arith)) (in_second x z 1 c.fits-a.0) (in_second y w 1 c.fits-b.0))
    (four_same (in_first x z 2 c.fits-a.0 (omega arith)) (in_first y w 2 c.fits-b.0 (omega arith)) (in_second x z 2 c.fits-a.0) (in_second y w 2 c.fits-b.0))
    (four_same (in_first x z 3 c.fits-a.0 (omega arith)) (in_first y w 3 c.fits-b.0 (omega arith)) (in_second x z 3 c.fits-a.0) (in_second y w 3 c.fits-b.0))
