use Rattle.position_alloc.proofs.LowestLemmas.{is_lowest, only_lowest, at_most}
use Rattle.position_alloc.proofs.laws.lowest.Goals as goal

pub returns : goal.returns
returns c = record { is_lowest = is_lowest; only = only_lowest; at_most = at_most }
