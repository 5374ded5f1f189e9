use Rattle.parity_writer.proofs.ReadRowLemmas.{read_closes}
use Rattle.parity_writer.proofs.laws.what_was_read_closes_its_stripe.Goals as goal

pub returns : goal.returns
returns c = λ table starts stripe window i readings folders info read fits all there.
    read_closes c.a_reading_is_of_its_cell.ensures table starts stripe window i readings folders read fits all c.closing_a_stripe_gives_its_hashes.ensures info there
