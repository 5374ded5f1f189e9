use Rattle.gf256.proofs.ShiftLemmas.{twice_small, twice_large}
use Rattle.gf256.proofs.laws.doubling.Goals as goal

pub returns : goal.returns
returns c = record { small = twice_small; large = twice_large }
