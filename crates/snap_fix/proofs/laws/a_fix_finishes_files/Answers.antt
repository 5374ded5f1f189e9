use Rattle.snap_fix.proofs.RestoredRest.{stands_finished}
use Rattle.snap_fix.proofs.laws.a_fix_finishes_files.Goals as goal

pub returns : goal.returns
returns c plan starts stripes finishes firsts news d i has =
    let it = has.fixed in
    stands_finished plan starts stripes finishes firsts news it.fixed d i it.column it.tells it.inside has.finished
