use Rattle.snap_scrub.proofs.IoLemmas.{io_told}
use Rattle.snap_scrub.proofs.laws.no_more_unread_cells_are_told_than_failed.Goals as goal

pub returns : goal.returns
returns c = λ table readings olds news d read within. io_told table readings olds news d read within
