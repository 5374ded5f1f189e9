use Rattle.cauchy.proofs.ParityLemmas.{empty_row}
use Rattle.cauchy.proofs.laws.empty_row.Goals as goal

pub returns : goal.returns
returns c = empty_row
