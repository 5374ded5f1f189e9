use Rattle.std.proofs.Common.{bit_xor}
use Rattle.md5_lanes.proofs.LaneLemmas.{own_lanes, zip_lanes}
use Rattle.md5_lanes.proofs.lanes.h_lanes.Goals as goal

pub returns : goal.returns
returns c =
    let x = own_lanes c.args.x c.fits-x.0 in
    let y = own_lanes c.args.y c.fits-y.0 in
    let z = own_lanes c.args.z c.fits-z.0 in
    (zip_lanes bit_xor (zip_lanes bit_xor x y) z).at
