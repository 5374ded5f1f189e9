use Rattle.snap_top.proofs.ChanceLemmas.{no_chance_met}
use Rattle.snap_top.proofs.laws.a_fix_of_what_is_left_meets_no_chance.Goals as goal

pub returns : goal.returns
returns g c =
    no_chance_met g.O.Opener.view g.F.Folder.view g.V.Vault.view g.W.Sink.view c.headline.ensures c.undamaged_levels_restore.ensures.intact c.a_cell_stands_at_its_position.ensures.found c.one_table_has_a_spelling.ensures
    c.what_a_sync_saves_is_valid.ensures c.a_stop_within_a_fix_changes_written_blocks_alone.ensures.listed c.a_stripe_is_restorable_by_counting.ensures.levels c.products.ensures.zero
    c.a_row_has_the_cells_that_close_it.ensures.row c.rows_of_the_same_bytes_have_the_same_levels.ensures
