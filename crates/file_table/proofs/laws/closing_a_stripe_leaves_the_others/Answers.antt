use Rattle.file_table.proofs.ViewLemmas.{stripe_view-closed}
use Rattle.file_table.proofs.laws.closing_a_stripe_leaves_the_others.Goals as goal

pub returns : goal.returns
returns c = λ table stripe other info hashes apart. stripe_view-closed table stripe other hashes info apart
