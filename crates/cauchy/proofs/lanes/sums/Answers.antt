use Rattle.std.specs.Int.Bits.{bit_xor}
use Rattle.cauchy.proofs.LaneLemmas.{HasLanes-zip2}
use Rattle.cauchy.proofs.lanes.sums.Goals as goal

pub returns : goal.returns
returns c = HasLanes-zip2 bit_xor c.args.a c.args.b c.fits-a.0 c.fits-b.0
