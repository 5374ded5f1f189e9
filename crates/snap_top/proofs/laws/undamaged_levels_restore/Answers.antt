use Rattle.snap_top.proofs.UndamagedLemmas.{restored_by_counting, undamaged_intact}
use Rattle.snap_top.proofs.laws.undamaged_levels_restore.Goals as goal

pub returns-clause-intact : goal.returns-clause-intact
returns-clause-intact g c =
    λ run fix snapshot is_changed mended r is tells sound undamaged. undamaged_intact c.a_whole_level_is_what_the_file_holds.ensures _ _ fix snapshot is_changed mended r is tells sound undamaged

pub returns-clause-restored : goal.returns-clause-restored
returns-clause-restored g c =
    λ run fix finishes snapshot is_changed mended d cell is tells sound restores can.
    restored_by_counting c.a_whole_level_is_what_the_file_holds.ensures _ _ fix finishes snapshot is_changed mended d cell is tells sound restores can
