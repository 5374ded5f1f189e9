use Rattle.stripe_reader.proofs.laws.what_is_fetched_and_hashed_is_read.Goals as goal

pub returns : goal.returns
returns c = λ table starts stripes before after olds news fetched. fetched.read
