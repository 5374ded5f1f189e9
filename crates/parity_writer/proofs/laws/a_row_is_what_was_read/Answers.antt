use Rattle.parity_writer.proofs.ReadRowLemmas.{row_read, digests_read}
use Rattle.parity_writer.proofs.laws.a_row_is_what_was_read.Goals as goal

pub returns-clause-row : goal.returns-clause-row
returns-clause-row c = row_read c.a_reading_is_of_its_cell.ensures

pub returns-clause-digests : goal.returns-clause-digests
returns-clause-digests c = digests_read c.a_reading_is_of_its_cell.ensures
