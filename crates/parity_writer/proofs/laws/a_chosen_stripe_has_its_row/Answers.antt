use Rattle.parity_writer.proofs.ChosenLemmas.{chosen_row, other_row}
use Rattle.parity_writer.proofs.laws.a_chosen_stripe_has_its_row.Goals as goal

pub returns-clause-chosen : goal.returns-clause-chosen
returns-clause-chosen c = chosen_row

pub returns-clause-others : goal.returns-clause-others
returns-clause-others c = other_row
