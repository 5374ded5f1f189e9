use Rattle.stripe_reader.proofs.ColumnLemmas.{column_then}
use Rattle.stripe_reader.proofs.laws.readings_follow_one_another.Goals as goal

pub returns : goal.returns
returns c = column_then
