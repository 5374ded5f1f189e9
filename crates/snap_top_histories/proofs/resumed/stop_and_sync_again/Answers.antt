use Rattle.std.proofs.Common.{sym, ◌∙◌}
use Rattle.disk_memory.specs.Folder.{folder_view}
use Rattle.disk_memory.specs.Sink.{sink_view}
use Rattle.disk_memory.specs.Vault.{vault_value, vault_view}
use Rattle.snap_top_histories.proofs.ResumedLemmas.{resumed_once}
use Rattle.snap_top_histories.proofs.resumed.stop_and_sync_again.Goals as goal

pub returns : goal.returns
returns g c =
    let whole = c.in_ok-whole.ensures in
    let stopped = c.in_ok-stopped.ensures in
    let left = c.in_ok-left.ensures in
    let kept = c.in_ok-kept.ensures in
    let last = c.in_ok-last.ensures in
    resumed_once _ folder_view vault_view sink_view _ _ _ _ c.args.array.levels c.args.array.copies (vault_value c.in_ok-fresh.fresh) (vault_value c.in_ok-fresh_too.fresh_too) _ _ _ _ _ _ _ _ _ _ _ _ _ _ _
    c.headline.ensures c.in_ok-fresh.ensures.view c.in_ok-fresh_too.ensures.view (c.ask_for_sync.ensures c.if-not-ask_for_sync.false) (c.ask_for_no_change.ensures c.if-not-ask_for_no_change.false)
    whole.ran whole.faults whole.clean stopped.ran stopped.faults left.left (left.copies ∙ c.copies-copies.ensures) c.in_ok-looked.ensures
    kept.left (kept.copies ∙ sym left.copies) last.ran last.faults last.clean
