use Rattle.stripe_reader.proofs.ReadingsLemmas.{window_readings}
use Rattle.stripe_reader.proofs.laws.a_window_keeps_a_reading_of_each_cell.Goals as goal

pub returns : goal.returns
returns c = window_readings
