use Rattle.gf256.proofs.HalfLemmas.{product_by_parts, by_halves}
use Rattle.gf256.proofs.laws.by_halves.Goals as goal

pub returns : goal.returns
returns c = record { halves = product_by_parts; tables = by_halves }
