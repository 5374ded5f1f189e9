use Rattle.disk_memory.specs.Folder.{folder_view}
use Rattle.disk_memory.specs.Sink.{sink_view}
use Rattle.disk_memory.specs.Vault.{vault_view}
use Rattle.snap_top_pairs.proofs.FoundLemmas.{found_twice}
use Rattle.snap_top_pairs.proofs.found.check_lost_twice.Goals as goal

pub returns : goal.returns
returns g c =
    found_twice _ folder_view vault_view sink_view c.one_table_has_a_spelling.ensures _ _ _ _ c.in_ok-ends.ensures
    (c.asks_check_of_all.ensures c.if-not-asks_check_of_all.false) c.if-ends-ne1.false c.what_is_read_determines_what_is_found.ensures.stripe
    c.one_array_is_found_alike.ensures.checks c.what_is_read_alike_is_found_alike.ensures.checks
    (c.asks_check_of_all-2.ensures c.if-not-asks_check_of_all-2.false)
