use Rattle.gf256.proofs.ProductLemmas.{product_is_remainder}
use Rattle.gf256.proofs.laws.reduction.Goals as goal

pub returns : goal.returns
returns c = product_is_remainder
