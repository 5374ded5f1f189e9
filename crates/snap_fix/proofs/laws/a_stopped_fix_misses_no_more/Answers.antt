use Rattle.snap_fix.proofs.AgainLemmas.{found_right}
use Rattle.snap_fix.proofs.laws.a_stopped_fix_misses_no_more.Goals as goal

pub returns : goal.returns
returns c stop plan facts again is looked found right then = found_right stop facts looked plan again is c.a_file_that_no_call_names_stays.ensures found right then
