use Rattle.stripe_reader.proofs.ReadingsLemmas.{stripe_bytes}
use Rattle.stripe_reader.proofs.laws.a_stripe_that_was_read_is_bytes.Goals as goal

pub returns : goal.returns
returns c = stripe_bytes
