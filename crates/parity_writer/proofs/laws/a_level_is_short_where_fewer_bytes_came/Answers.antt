use Rattle.parity_writer.proofs.WholeLevelLemmas.{unread_exactly, short_exactly}
use Rattle.parity_writer.proofs.laws.a_level_is_short_where_fewer_bytes_came.Goals as goal

pub returns-clause-unread : goal.returns-clause-unread
returns-clause-unread c = unread_exactly

pub returns-clause-short : goal.returns-clause-short
returns-clause-short c = short_exactly
