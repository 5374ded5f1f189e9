use Rattle.parity_writer.proofs.PutRowLemmas.{put_row, other_rows}
use Rattle.parity_writer.proofs.laws.a_put_block_stands_in_its_row.Goals as goal

pub returns-clause-row : goal.returns-clause-row
returns-clause-row c = put_row

pub returns-clause-others : goal.returns-clause-others
returns-clause-others c = other_rows
