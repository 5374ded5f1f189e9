use Rattle.disk_model.specs.Tree.{path_of}
use Rattle.snap_fix.specs.Stopped.{path_at}
use Rattle.snap_fix.proofs.StoppedLemmas.{bytes_stand, left_alone, listed_in_place, unfinished_alone}
use Rattle.snap_fix.proofs.StoppedCellLemmas.{cell_stands}
use Rattle.snap_fix.proofs.laws.a_stop_within_a_fix_changes_written_blocks_alone.Goals as goal

pub returns-clause-bytes : goal.returns-clause-bytes
returns-clause-bytes c stop i file is within placed = bytes_stand stop is i within file c.a_file_that_no_call_names_stays.ensures placed

pub returns-clause-cells : goal.returns-clause-cells
returns-clause-cells c stop cell file is spared within placed =
    cell_stands stop is cell spared within file (bytes_stand stop is cell.rec within file c.a_file_that_no_call_names_stays.ensures placed)

pub returns-clause-not_selected : goal.returns-clause-not_selected
returns-clause-not_selected c stop i lost is within not_finished =
    let name = path_of (path_at stop i) lost in
    c.a_file_that_no_call_names_stays.ensures stop.keeps is.calls stop.first stop.left name (left_alone stop is name (unfinished_alone stop is i lost within not_finished)) is.left

pub returns-clause-others : goal.returns-clause-others
returns-clause-others c stop name is none =
    c.a_file_that_no_call_names_stays.ensures stop.keeps is.calls stop.first stop.left name (left_alone stop is name none) is.left

pub returns-clause-listed : goal.returns-clause-listed
returns-clause-listed c = listed_in_place
