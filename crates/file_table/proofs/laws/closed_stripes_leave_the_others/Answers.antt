use Rattle.file_table.proofs.ClosingLemmas.{stripe_view-none}
use Rattle.file_table.proofs.laws.closed_stripes_leave_the_others.Goals as goal

pub returns : goal.returns
returns c = λ table closings stripe apart. stripe_view-none closings table stripe apart
