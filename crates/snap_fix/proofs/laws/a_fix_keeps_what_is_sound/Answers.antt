use Rattle.snap_fix.proofs.SoundFixLemmas.{genuine_facts, mended_level, still_sound, wrong_was_changed}
use Rattle.snap_fix.proofs.laws.a_fix_keeps_what_is_sound.Goals as goal

pub returns-clause-facts : goal.returns-clause-facts
returns-clause-facts c plan starts firsts read snapshot is_changed stripes facts are one searched =
    genuine_facts plan starts firsts read snapshot is_changed stripes are c.products.ensures.zero c.a_row_has_the_cells_that_close_it.ensures.row c.rows_of_the_same_bytes_have_the_same_levels.ensures facts one searched

pub returns-clause-wrong : goal.returns-clause-wrong
returns-clause-wrong c plan starts firsts read snapshot is_changed stripes facts r are one wrong =
    wrong_was_changed plan starts firsts read snapshot is_changed stripes are c.products.ensures.zero c.a_row_has_the_cells_that_close_it.ensures.row c.rows_of_the_same_bytes_have_the_same_levels.ensures facts r one wrong

pub returns-clause-sound : goal.returns-clause-sound
returns-clause-sound c plan starts firsts read snapshot is_changed stripes table files left are same keeps sound =
    still_sound plan starts firsts read snapshot is_changed stripes are c.products.ensures.zero c.a_row_has_the_cells_that_close_it.ensures.row c.rows_of_the_same_bytes_have_the_same_levels.ensures table files left same keeps sound

pub returns-clause-mended : goal.returns-clause-mended
returns-clause-mended c plan starts firsts snapshot facts left r has holds wrong =
    mended_level c.a_row_has_the_cells_that_close_it.ensures.row c.rows_of_the_same_bytes_have_the_same_levels.ensures plan starts firsts snapshot facts left r c.products.ensures.zero has holds wrong
