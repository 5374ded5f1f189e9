use Rattle.std.proofs.Common.{leb, get_or, replicate, sym, subst, w8}
use Rattle.std.specs.Int.Bits.{bit_xor}
use Rattle.std.specs.Simd.Lanes.{zip2, sel_l}
use Rattle.std.proofs.lemmas.Simd.{tops_compared}
use Rattle.gf256.specs.Field.{product}
use Rattle.cauchy.specs.Lanes.{HasLanes}
use Rattle.cauchy.proofs.LaneLemmas.{wrapped, HasLanes-doubled}
use Rattle.cauchy.proofs.lanes.doubled.Goals as goal

pub returns : goal.returns
returns c =
    let v = c.args.bytes in
    subst (λ ms. HasLanes (zip2 bit_xor (zip2 wrapped v v) (sel_l ms (replicate 32 0x1d) (replicate 32 0))) (λ k. product 2 (get_or v k 0)))
    (sym (tops_compared w8 leb (replicate 32 128) v)) (HasLanes-doubled v c.fits-bytes.0 c.fits-bytes.1)
