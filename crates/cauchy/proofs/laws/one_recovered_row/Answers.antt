use Rattle.cauchy.proofs.RecoveryLemmas.{some_recovered, only_recovered}
use Rattle.cauchy.proofs.laws.one_recovered_row.Goals as goal

pub returns : goal.returns
returns c =
    record {
      exists = λ size row missing levels given can.
          some_recovered size row missing levels given can.choice can.part can.row_blocks can.given_blocks can.given_count;
      only = λ size row missing levels given one other can.
          only_recovered size row missing levels given can.choice can.part can.row_blocks can.given_blocks can.given_count one other;
    }
