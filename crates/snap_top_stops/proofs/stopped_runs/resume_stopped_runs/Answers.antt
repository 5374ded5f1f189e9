use Rattle.std.proofs.Common.{ap, sym, ◌∙◌}
use Rattle.disk_memory.specs.Folder.{folder_view}
use Rattle.disk_memory.specs.Sink.{sink_view}
use Rattle.disk_memory.specs.Vault.{VaultValue, vault_value, vault_view, view_of}
use Rattle.snap_top_stops.proofs.StoppedRunsLemmas.{all_resumed}
use Rattle.snap_top_stops.proofs.stopped_runs.resume_stopped_runs.Goals as goal

-- the vault of the syncs is new
pub sync_clean-requires-2-after_bounds : goal.sync_clean-requires-2-after_bounds
sync_clean-requires-2-after_bounds g c κs within =
    let made = c.in_ok-fresh_too.ensures in
    record {
      settled = made.settled;
      drafts = made.drafts;
      moment = ap (λ (value : VaultValue). (view_of value).images.moment) made.view;
      faults = ap (λ (value : VaultValue). (view_of value).faults) made.view;
    }

pub returns : goal.returns
returns g c =
    let whole = c.in_ok-whole.ensures in
    let stopped = c.in_ok-stopped.ensures in
    let left = c.in_ok-left.ensures in
    let seen = c.in_ok-seen.ensures in
    let kept = c.in_ok-kept.ensures in
    let last = c.in_ok-last.ensures in
    all_resumed _ folder_view vault_view sink_view _ _ _ _ c.args.array.levels c.args.array.copies (vault_value c.in_ok-fresh.fresh) (vault_value c.in_ok-fresh_too.fresh_too)
    (vault_value c.in_ok-kept.kept) (vault_value c.in_ok-seen.seen) _ _ _ _ _ _ _ _ _ _ _ _ _ _ c.stopped_runs_are_resumed.ensures c.stopped_syncs_are_resumed.ensures
    c.what_a_run_loaded_is_known.ensures.none c.headline.ensures c.in_ok-fresh.ensures.view c.in_ok-fresh_too.ensures.view (c.ask_for_sync.ensures c.if-not-ask_for_sync.false)
    (c.has_whole_levels.ensures c.if-not-has_whole_levels.false) (c.asks_status.ensures c.if-not-asks_status.false) whole.ran whole.faults whole.clean
    (c.has_parity.ensures c.if-not-has_parity.false) stopped.ran stopped.faults stopped.clean left.left (left.copies ∙ c.copies-copies.ensures) c.in_ok-looked.ensures
    kept.left (seen.picked ∙ sym kept.picked) (c.has_content.ensures c.if-not-has_content.false) last.ran last.faults last.clean
