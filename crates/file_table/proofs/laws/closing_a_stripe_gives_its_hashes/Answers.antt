use Rattle.file_table.proofs.ViewLemmas.{view-hashed}
use Rattle.file_table.proofs.laws.closing_a_stripe_gives_its_hashes.Goals as goal

pub returns : goal.returns
returns c = view-hashed
