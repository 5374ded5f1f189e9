use Rattle.parity_writer.proofs.ElsewhereLemmas.{same_parity}
use Rattle.parity_writer.proofs.laws.parity_is_its_rows.Goals as goal

pub returns : goal.returns
returns c = λ levels block_size bytes rows start one other some a b. same_parity levels block_size bytes rows start one other some a b
