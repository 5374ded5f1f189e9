use Rattle.stripe_reader.proofs.ReadingsLemmas.{reading_at}
use Rattle.stripe_reader.proofs.laws.a_reading_is_of_its_cell.Goals as goal

pub returns : goal.returns
returns c = reading_at
