use Rattle.std.proofs.Common.{◌≡◌, List, length, map, subst}
use Rattle.disk_memory.specs.Folder.{folder_view}
use Rattle.disk_memory.specs.Sink.{sink_view}
use Rattle.disk_memory.specs.Vault.{vault_view}
use Rattle.disk_memory.specs.declared.folder.MemFolder.{MemFolder}
use Rattle.snap_top_restores.proofs.ReachedLemmas.{reached_cell}
use Rattle.snap_top_restores.proofs.reached.reach_a_block.Goals as goal

pub returns : goal.returns
returns g c =
    let made = c.in_ok-made.ensures in
    let one_disk = subst (λ (folders : List MemFolder). length (map folder_view folders) ≡ 1) c.as_slice.ensures.value (c.is_one_disk.ensures c.if-not-is_one_disk.false) in
    reached_cell _ folder_view vault_view sink_view _ _ _ _ _ _ _ _ _ _ c.headline.ensures c.a_fix_of_what_is_left_meets_no_chance.ensures c.undamaged_levels_restore.ensures.intact
    c.undamaged_levels_restore.ensures.restored c.in_ok-taken.ensures.once one_disk (c.ask_for_fix.ensures c.if-not-ask_for_fix.false) made.ran made.ended made.faults made.printed
