use Rattle.std.proofs.Common.{length}
use Rattle.parity_writer.specs.Sound.{across}
use Rattle.snap_fix.specs.Mended.{has_lost}
use Rattle.snap_fix.proofs.ExactLemmas.{exact, from_wide, wide_are_bytes, wide_tells}
use Rattle.stripe_reader.specs.Columns.{folder_at}
use Rattle.snap_fix.proofs.RestoredEvents.{told_is_unknown}
use Rattle.snap_fix.proofs.RestoredLemmas.{held_by, known_as_had, known_is, known_where_had, lost_by, same_cell, searched_no_audit, unknown_where_not}
use Rattle.stripe_examiner.specs.Showing.{block_or_none, known_block}
use Rattle.snap_fix.proofs.laws.a_fix_restores.Goals as goal

pub returns-clause-held : goal.returns-clause-held
returns-clause-held c plan starts stripes finishes firsts news facts d cell has one free tells known =
    held_by plan stripes facts d cell one starts finishes firsts news has free known tells

pub returns-clause-lost : goal.returns-clause-lost
returns-clause-lost c plan stripes finishes facts d cell one parity unknown = lost_by plan stripes facts d cell one finishes unknown parity

pub returns-clause-told : goal.returns-clause-told
returns-clause-told c plan starts stripes finishes firsts news stripe d cell has tells told =
    told_is_unknown plan starts stripes finishes firsts news has stripe d cell told tells

pub returns-clause-known : goal.returns-clause-known
returns-clause-known c plan starts firsts snapshot facts is_intact d genuine bytes intact =
    known_as_had plan starts firsts (across (length plan.table.columns) snapshot) facts (exact c.a_row_has_the_cells_that_close_it.ensures.row plan starts firsts snapshot facts genuine)
    c.products.ensures.zero d (wide_are_bytes plan facts snapshot genuine.was bytes) is_intact
    (wide_tells plan facts snapshot genuine.was c.rows_of_the_same_bytes_have_the_same_levels.ensures is_intact intact)

pub returns-clause-restored : goal.returns-clause-restored
returns-clause-restored c plan starts stripes finishes firsts news facts d cell snapshot is_intact has one genuine bytes intact free tells had =
    let wide = across (length plan.table.columns) snapshot in
    let its = exact c.a_row_has_the_cells_that_close_it.ensures.row plan starts firsts snapshot facts genuine in
    let known = known_where_had plan starts firsts wide facts its c.products.ensures.zero d (wide_are_bytes plan facts snapshot genuine.was bytes) is_intact
    (wide_tells plan facts snapshot genuine.was c.rows_of_the_same_bytes_have_the_same_levels.ensures is_intact intact) had in
    same_cell plan d cell (has_lost plan stripes d cell.rec) (folder_at news d).tree
    (from_wide plan facts snapshot genuine.was d (block_or_none (known_block plan facts d)) (known_is plan starts firsts wide facts its c.products.ensures.zero d known))
    (held_by plan stripes facts d cell one starts finishes firsts news has free known tells)

pub returns-clause-unrestored : goal.returns-clause-unrestored
returns-clause-unrestored c plan starts stripes finishes firsts facts d cell snapshot is_intact one genuine bytes intact never =
    lost_by plan stripes facts d cell one finishes
    (unknown_where_not plan starts firsts (across (length plan.table.columns) snapshot) facts
    (exact c.a_row_has_the_cells_that_close_it.ensures.row plan starts firsts snapshot facts genuine) c.products.ensures.zero d
    (wide_are_bytes plan facts snapshot genuine.was bytes) is_intact
    (wide_tells plan facts snapshot genuine.was c.rows_of_the_same_bytes_have_the_same_levels.ensures is_intact intact) never)
    (searched_no_audit plan facts.stripe genuine.searched)
