use Rattle.file_table.proofs.ClosingLemmas.{stripe_view-contained}
use Rattle.file_table.proofs.laws.a_closed_stripe_has_its_hashes_and_info.Goals as goal

pub returns : goal.returns
returns c = λ table closings closing apart held within. stripe_view-contained closings table closing apart held within
