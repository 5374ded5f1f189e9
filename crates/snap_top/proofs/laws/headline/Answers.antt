use Rattle.snap_top.proofs.HeadlineLemmas.{headline_holds}
use Rattle.snap_top.proofs.StoppingLemmas.{SaysOfStops}
use Rattle.snap_top.proofs.laws.headline.Goals as goal

pub returns : goal.returns
returns g c =
    let stop = c.a_stop_within_a_fix_changes_written_blocks_alone.ensures in
    let says : SaysOfStops = record {
      bytes = stop.bytes;
      cells = stop.cells;
      not_selected = stop.not_selected;
      others = stop.others;
      listed = stop.listed;
      again = c.a_stopped_fix_misses_no_more.ensures;
    } in
    headline_holds g.O.Opener.view g.F.Folder.view g.V.Vault.view g.W.Sink.view c.a_moment_is_sound_with_its_rows.ensures c.one_table_has_a_spelling.ensures c.a_sync_is_a_part_sync.ensures.laid c.what_a_sync_saves_is_valid.ensures c.a_scrub_keeps_what_is_synced.ensures.valid
    c.stopped_syncs_are_resumed.ensures c.there_is_a_full_sync.ensures.shape c.a_whole_level_is_what_the_file_holds.ensures
    c.a_stopped_sync_is_resumed.ensures.pending c.a_stopped_sync_is_resumed.ensures.laid c.a_fix_keeps_what_is_sound.ensures.facts c.a_fix_keeps_what_is_sound.ensures.sound
    c.a_fix_keeps_what_is_sound.ensures.mended c.a_check_finds_what_a_fix_finds.ensures.fixed
    c.a_fix_finishes_files.ensures says
