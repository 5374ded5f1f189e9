use Rattle.parity_writer.proofs.ElsewhereLemmas.{over_lengths}
use Rattle.parity_writer.proofs.laws.lengths_are_parity_without_rows.Goals as goal

pub returns : goal.returns
returns c = over_lengths
