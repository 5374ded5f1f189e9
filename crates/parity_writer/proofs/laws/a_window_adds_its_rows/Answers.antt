use Rattle.parity_writer.proofs.ElsewhereLemmas.{over_window}
use Rattle.parity_writer.proofs.laws.a_window_adds_its_rows.Goals as goal

pub returns : goal.returns
returns c = over_window
