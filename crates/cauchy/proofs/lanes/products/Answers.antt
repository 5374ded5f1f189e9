use Rattle.cauchy.proofs.LaneLemmas.{low_ok, high_ok, HasLanes-products}
use Rattle.cauchy.proofs.lanes.products.Goals as goal

pub swizzle-low : goal.swizzle-low
swizzle-low c = low_ok c.args.bytes c.fits-bytes.0

pub swizzle-high : goal.swizzle-high
swizzle-high c = high_ok c.args.bytes c.fits-bytes.0 c.fits-bytes.1

pub returns : goal.returns
returns c = λ k are. HasLanes-products k c.args.tables.now c.args.bytes are c.fits-bytes.0 c.fits-bytes.1
