use Rattle.std.proofs.Common.{bit_and, bit_or}
use Rattle.std.specs.Int.{bit_not, w32}
use Rattle.md5_lanes.proofs.LaneLemmas.{own_lanes, map_lanes, zip_lanes}
use Rattle.md5_lanes.proofs.lanes.f_lanes.Goals as goal

pub returns : goal.returns
returns c =
    let x = own_lanes c.args.x c.fits-x.0 in
    let y = own_lanes c.args.y c.fits-y.0 in
    let z = own_lanes c.args.z c.fits-z.0 in
    (zip_lanes bit_or (zip_lanes bit_and x y) (zip_lanes bit_and (map_lanes (bit_not w32) x) z)).at
