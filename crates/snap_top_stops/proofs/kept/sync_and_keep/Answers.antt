use Rattle.std.proofs.Common.{List, sym, ap, ◌∙◌}
use Rattle.disk_memory.specs.Folder.{folder_view}
use Rattle.disk_memory.specs.Sink.{sink_view}
use Rattle.disk_memory.specs.Vault.{vault_value, vault_view}
use Rattle.disk_memory.specs.declared.folder.MemFolder.{MemFolder}
use Rattle.snap_top_stops.specs.Stopped.{all_tell_calls}
use Rattle.snap_top_stops.proofs.KeptLemmas.{tree_kept}
use Rattle.snap_top_stops.proofs.kept.sync_and_keep.Goals as goal

pub returns : goal.returns
returns g c =
    let made = c.in_ok-made.ensures in
    let told = ap (λ (folders : List MemFolder). all_tell_calls folder_view folders) (sym c.as_slice.ensures.value) ∙ sym c.tell_calls.ensures ∙ c.if-not-tell_calls.false in
    tree_kept _ folder_view vault_view sink_view _ _ _ c.args.array.levels c.args.array.copies (vault_value c.in_ok-fresh.fresh) _ _ _ _ _ c.headline.ensures c.in_ok-fresh.ensures.view
    (c.asks_plain_sync.ensures c.if-not-asks_plain_sync.false) made.ran told (c.in_ok-there.ensures c.if-not-there.false)
