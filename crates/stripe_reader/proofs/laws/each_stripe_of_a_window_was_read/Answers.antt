use Rattle.stripe_reader.proofs.ReadingsLemmas.{stripe_readings}
use Rattle.stripe_reader.proofs.laws.each_stripe_of_a_window_was_read.Goals as goal

pub returns : goal.returns
returns c = stripe_readings
