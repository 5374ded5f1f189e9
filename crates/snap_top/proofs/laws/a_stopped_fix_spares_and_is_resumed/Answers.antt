use Rattle.snap_top.proofs.MissesLemmas.{finds_no_less}
use Rattle.snap_top.proofs.SparedLemmas.{cells_spared}
use Rattle.snap_top.proofs.StoppingLemmas.{SaysOfStops, enough_again, stop_spares}
use Rattle.snap_top.proofs.laws.a_stopped_fix_spares_and_is_resumed.Goals as goal

pub returns-clause-spares : goal.returns-clause-spares
returns-clause-spares g c =
    let stop = c.a_stop_within_a_fix_changes_written_blocks_alone.ensures in
    let says : SaysOfStops = record {
      bytes = stop.bytes;
      cells = stop.cells;
      not_selected = stop.not_selected;
      others = stop.others;
      listed = stop.listed;
      again = c.a_stopped_fix_misses_no_more.ensures;
    } in
    λ run fix d left is at. stop_spares says _ _ fix d left is at

pub returns-clause-cells : goal.returns-clause-cells
returns-clause-cells g c =
    let stop = c.a_stop_within_a_fix_changes_written_blocks_alone.ensures in
    let says : SaysOfStops = record {
      bytes = stop.bytes;
      cells = stop.cells;
      not_selected = stop.not_selected;
      others = stop.others;
      listed = stop.listed;
      again = c.a_stopped_fix_misses_no_more.ensures;
    } in
    λ run fix d left is at. cells_spared says _ _ fix d left is at

pub returns-clause-again : goal.returns-clause-again
returns-clause-again g c = enough_again

pub returns-clause-misses : goal.returns-clause-misses
returns-clause-misses g c =
    let stop = c.a_stop_within_a_fix_changes_written_blocks_alone.ensures in
    let says : SaysOfStops = record {
      bytes = stop.bytes;
      cells = stop.cells;
      not_selected = stop.not_selected;
      others = stop.others;
      listed = stop.listed;
      again = c.a_stopped_fix_misses_no_more.ensures;
    } in
    λ run again fix ends mended mended_again is next one one_then stripe. finds_no_less says _ _ _ _ again.status fix is ends next mended mended_again one one_then stripe
