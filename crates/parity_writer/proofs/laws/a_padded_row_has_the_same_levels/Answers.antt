use Rattle.parity_writer.proofs.PaddedLemmas.{padded_level}
use Rattle.parity_writer.proofs.laws.a_padded_row_has_the_same_levels.Goals as goal

pub returns : goal.returns
returns c = padded_level c.same_bytes.ensures
