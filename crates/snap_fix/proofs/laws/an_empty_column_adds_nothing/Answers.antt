use Rattle.stripe_examiner.proofs.RestorableSums.{empty_level}
use Rattle.snap_fix.proofs.laws.an_empty_column_adds_nothing.Goals as goal

pub returns : goal.returns
returns c level columns row p distinct empty = empty_level level columns row p c.products.ensures.zero distinct empty
