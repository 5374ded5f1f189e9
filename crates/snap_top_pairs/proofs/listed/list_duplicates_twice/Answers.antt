use Rattle.disk_memory.specs.Folder.{folder_view}
use Rattle.disk_memory.specs.Sink.{sink_view}
use Rattle.disk_memory.specs.Vault.{vault_view}
use Rattle.snap_top_pairs.proofs.ListedLemmas.{duplicates_twice}
use Rattle.snap_top_pairs.proofs.listed.list_duplicates_twice.Goals as goal

pub returns : goal.returns
returns g c =
    duplicates_twice _ folder_view vault_view sink_view c.one_table_has_a_spelling.ensures c.one_array_is_found_alike.ensures.prints _ _ _ _ c.in_ok-ends.ensures
    (c.asks_duplicates.ensures c.if-not-asks_duplicates.false) (c.asks_duplicates-2.ensures c.if-not-asks_duplicates-2.false)
