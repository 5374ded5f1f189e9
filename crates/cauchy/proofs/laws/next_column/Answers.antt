use Rattle.cauchy.proofs.RecoveryLemmas.{missing_column, other_column}
use Rattle.cauchy.proofs.laws.next_column.Goals as goal

pub returns : goal.returns
returns c = λ level missing row block p.
    record { missing_column = missing_column level missing row block p; other_column = other_column level missing row block p }
