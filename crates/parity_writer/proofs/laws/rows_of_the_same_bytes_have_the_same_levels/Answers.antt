use Rattle.parity_writer.proofs.CellsLemmas.{same_parity_by}
use Rattle.parity_writer.proofs.laws.rows_of_the_same_bytes_have_the_same_levels.Goals as goal

pub returns : goal.returns
returns c = λ level block_size one other bytes i below. same_parity_by c.same_bytes.ensures c.no_block.ensures level block_size one other bytes i below
