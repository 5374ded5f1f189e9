use Rattle.std.proofs.Common.{◌-◌, ◌*◌, ◌/◌, ◌%◌, ◌^◌, slice_index, bit_or, ◌∙◌}
use Rattle.md5_lanes.proofs.LaneLemmas.{own_lanes, splat_lanes, zip_lanes}
use Rattle.md5_lanes.proofs.RoundLemmas.{rotate_is}
use Rattle.md5_lanes.proofs.lanes.rotated.Goals as goal

pub returns : goal.returns
returns c =
    let x = own_lanes c.args.x c.fits-x.0 in
    let up = zip_lanes (λ a b. a * 2 ^ b % 2 ^ 32) x (splat_lanes c.args.shift) in
    let down = zip_lanes (λ a b. a / 2 ^ b) x (splat_lanes (32 - c.args.shift)) in
    let all = zip_lanes bit_or up down in record {
      long = all.len;
      lanes = λ i lt. all.at i lt ∙ rotate_is (slice_index c.args.x i) c.args.shift c.requires.some c.requires.few;
    }
