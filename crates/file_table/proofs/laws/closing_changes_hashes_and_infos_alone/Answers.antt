use Rattle.file_table.proofs.ClosingLemmas.{differs-closed}
use Rattle.file_table.proofs.laws.closing_changes_hashes_and_infos_alone.Goals as goal

pub returns : goal.returns
returns c = λ table closings. differs-closed closings table
