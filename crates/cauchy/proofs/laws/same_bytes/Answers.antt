use Rattle.cauchy.proofs.ParityLemmas.{same_bytes}
use Rattle.cauchy.proofs.laws.same_bytes.Goals as goal

pub returns : goal.returns
returns c = same_bytes
