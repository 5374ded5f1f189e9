use Rattle.std.proofs.Common.{length}
use Rattle.parity_writer.specs.Sound.{across}
use Rattle.snap_fix.proofs.ExactLemmas.{exact, from_wide, wide_are_bytes, wide_tells}
use Rattle.snap_fix.proofs.GenuineCells.{given_is}
use Rattle.snap_fix.proofs.GenuineLemmas.{known_by_count, row_same}
use Rattle.snap_fix.proofs.laws.a_known_row_is_the_snapshots.Goals as goal

pub returns-clause-known : goal.returns-clause-known
returns-clause-known c plan starts firsts snapshot row facts has is =
    row_same plan starts firsts (across (length plan.table.columns) snapshot) facts (exact c.a_row_has_the_cells_that_close_it.ensures.row plan starts firsts snapshot facts has) c.products.ensures.zero row is

pub returns-clause-restorable : goal.returns-clause-restorable
returns-clause-restorable c plan starts firsts snapshot facts is_intact has bytes tells =
    known_by_count plan starts firsts (across (length plan.table.columns) snapshot) facts (exact c.a_row_has_the_cells_that_close_it.ensures.row plan starts firsts snapshot facts has) c.products.ensures.zero
    (wide_are_bytes plan facts snapshot has.was bytes) is_intact (wide_tells plan facts snapshot has.was c.rows_of_the_same_bytes_have_the_same_levels.ensures is_intact tells)

pub returns-clause-given : goal.returns-clause-given
returns-clause-given c plan starts firsts snapshot facts d bytes has gift =
    from_wide plan facts snapshot has.was d bytes
    (given_is plan starts firsts (across (length plan.table.columns) snapshot) facts (exact c.a_row_has_the_cells_that_close_it.ensures.row plan starts firsts snapshot facts has) d bytes gift)
