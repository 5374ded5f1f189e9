use Rattle.std.proofs.Common.{length}
use Rattle.cauchy.specs.System.{AreDistinctBelow}
use Rattle.stripe_examiner.specs.Search.{columns_of}
use Rattle.stripe_examiner.proofs.RestorableFilling.{filled_agrees, filled_holds, filled_right}
use Rattle.snap_fix.proofs.RestorableLemmas.{accepted_long, levels_of_blocks}
use Rattle.stripe_examiner.specs.Restorable.{row_with}
use Rattle.snap_fix.proofs.laws.accepted_blocks_complete_the_row.Goals as goal

pub returns-clause-levels : goal.returns-clause-levels
returns-clause-levels c lost choice blocks is one accepted =
    let within : AreDistinctBelow (length lost.row) (columns_of lost.wanteds) = record { below = is.within; distinct = is.each_column.distinct } in
    levels_of_blocks lost is choice one blocks (row_with lost blocks) accepted.solves
    (filled_agrees lost.shape lost.wanteds blocks lost.row within) (filled_holds lost.shape lost.wanteds blocks lost.row within accepted.right)

pub returns-clause-others : goal.returns-clause-others
returns-clause-others c lost blocks is =
    filled_agrees lost.shape lost.wanteds blocks lost.row record { below = is.within; distinct = is.each_column.distinct }

pub returns-clause-right : goal.returns-clause-right
returns-clause-right c lost choice blocks is one accepted short j hj =
    filled_right lost.shape lost.wanteds blocks lost.row record { below = is.within; distinct = is.each_column.distinct }
    accepted.right (accepted_long lost is choice one blocks accepted) short j hj

pub returns-clause-same : goal.returns-clause-same
returns-clause-same c lost choice blocks row is one solved agree holds = levels_of_blocks lost is choice one blocks row solved agree holds
