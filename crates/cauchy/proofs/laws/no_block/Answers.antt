use Rattle.cauchy.proofs.ParityLemmas.{no_block}
use Rattle.cauchy.proofs.laws.no_block.Goals as goal

pub returns : goal.returns
returns c = no_block
