use Rattle.cauchy.proofs.MatrixLemmas.{denominator_positive}
use Rattle.cauchy.proofs.laws.denominators.Goals as goal

pub returns : goal.returns
returns c = denominator_positive
